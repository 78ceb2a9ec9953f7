use Rattle.std.proofs.Common.{◌/◌, length, sym, arith}
use Rattle.ways.proofs.Judging.{there}
use Rattle.ways.proofs.Named.{ok_there, ok_saw}
use Rattle.mudrieng.proofs.shown.Shown.+part.Goals as goal

pub unreachable-requires : goal.unreachable-requires
unreachable-requires g t c =
    let s = c.args.self.now in ok_there s.nodes.now (length s.nodes.now / 4) c.args.i (s.later c.args.i c.requires.within) c.in_default.ensures

pub overflow_mul-depth : goal.overflow_mul-depth
overflow_mul-depth g t c = omega (arith, there c.args.self.now.nodes.now c.args.i c.in-Some.node (sym c.in-Some.ensures))

pub part-requires : goal.part-requires
part-requires g t c κs within =
    let s = c.args.self.now in
    let named = ok_saw s.nodes.now (length s.nodes.now / 4) c.args.i (s.later c.args.i c.requires.within) _ c.in-Some.ensures _ c.in-Saw.is in
    (omega arith, (within, (named.first_below, omega arith)))

pub part-requires-in-Saw : goal.part-requires-in-Saw
part-requires-in-Saw g t c κs within =
    let s = c.args.self.now in
    let named = ok_saw s.nodes.now (length s.nodes.now / 4) c.args.i (s.later c.args.i c.requires.within) _ c.in-Some.ensures _ c.in-Saw.is in
    (omega arith, (within, (named.second_below, omega arith)))
