use Rattle.std.proofs.Common.{◌*◌, ◌<◌, ◌≤◌, length, refl, arith}
use Rattle.nodes.proofs.Left.{leaves_so}
use Rattle.best.proofs.Room.{room_enough, numbers_enough, room_short, room_long}
use Rattle.best.proofs.Sawn.{best_worth}
use Rattle.best.proofs.saw_sheet.Goals as goal

pub returns-then-room : goal.returns-then-room
returns-then-room g c =
    let s = c.args.sheet in
    let less : length c.args.room.now < 8 * (s.wide * s.high) = rw c.room.ensures at c.if-room.true in
    rw (room_short s.wide s.high (length c.args.room.now) less) (refl, refl)

pub write_way-nodes-requires : goal.write_way-nodes-requires
write_way-nodes-requires g c =
    let s = c.args.sheet in let same = c.values_of-values.ensures.sheet in
    let enough : 8 * (s.wide * s.high) ≤ length c.args.room.now = rw c.room.ensures at c.if-room.false in
    rw (c.whole.ensures.wide, c.whole.ensures.high) (
    record {
      ready = record { right = c.values_of-values.ensures.values; narrow = rw same (omega arith); low = rw same (omega arith) };
      numbered = numbers_enough s.wide s.high s.ok.0 s.ok.2 s.ok.1 s.ok.3;
      enough = room_enough s.wide s.high s.ok.0 s.ok.2 (length c.args.room.now) enough;
    })

pub returns : goal.returns
returns g c =
    let s = c.args.sheet in let u = c.args.uncut.now in let t = c.values_of-values.result in
    let enough : 8 * (s.wide * s.high) ≤ length c.args.room.now = rw c.room.ensures at c.if-room.false in
    rw (room_long s.wide s.high (length c.args.room.now) enough)
    (leaves_so _ _ _ _ _
    (best_worth (g.U.Uncut.reckoned u) _ _ t (g.met.U.Uncut.adds u t.sheet.blade) c.values_of-values.ensures.values s c.values_of-values.ensures.sheet _ _ _
    c.whole.ensures.wide c.whole.ensures.high c.whole-2.ensures)
    c.write_way-nodes.ensures)
