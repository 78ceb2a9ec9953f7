use Rattle.std.proofs.Common.{arith, length-take}
use Rattle.yields.proofs.Counting.{room_at_first}
use Rattle.yields.proofs.Reading.{judged_some}
use Rattle.yields.proofs.Worth.{counts_are}
use Rattle.yields.proofs.piece_counts.Goals as goal

pub add_pieces-requires : goal.add_pieces-requires
add_pieces-requires c =
    let able = judged_some _ _ _ _ _ _ c.in_ok-judge.ensures in
    (_, able.0, room_at_first _ _ _ _ _ 16 c.args.pieces.now.ok (simp length-take (omega arith)) (omega arith) (omega arith) able.1)

pub returns : goal.returns
returns c =
    let able = judged_some _ _ _ _ _ _ c.in_ok-judge.ensures in
    rw (← c.in_ok-judge.ensures) (counts_are _ _ _ 16 (c.add_pieces.ensures _ able.0))
