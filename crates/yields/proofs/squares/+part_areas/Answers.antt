use Rattle.std.proofs.Common.{ℕ, mul-le-mul, arith}
use Rattle.ways.proofs.Cuts.{first_smaller, second_smaller}
use Rattle.yields.proofs.Parting.{Parted, both_sawable, areas_saw}
use Rattle.yields.proofs.squares.+part_areas.Goals as goal
use Rattle.yields.proofs.squares.+part_areas.Goals.{In-Some-sawn}

-- the cut that is made, and both its parts
parted_here : (t : ℕ) (c : In-Some-sawn t) → Parted c.args.sheet.now.blade c.args.numbers.now c.args.i c.args.part c.in-Saw.cut c.in-Some-sawn.parts
parted_here t c = record { says = cc; cuts = rw c.blade-blade.ensures at c.in-Some-sawn.ensures }

pub part_areas-first-requires : goal.part_areas-first-requires
part_areas-first-requires t c =
    let so = parted_here t (goal.at.part_areas-first-requires t c).In-Some-sawn in
    let near = first_smaller _ _ _ _ _ so.cuts in (omega arith, ((omega arith, omega arith), (_, _, (both_sawable so _ _ c.requires.way.2).0)))

pub part_areas-second-requires : goal.part_areas-second-requires
part_areas-second-requires t c =
    let so = parted_here t (goal.at.part_areas-second-requires t c).In-Some-sawn in
    let far = second_smaller _ _ _ _ _ so.cuts in (omega arith, ((omega arith, omega arith), (_, _, (both_sawable so _ _ c.requires.way.2).1)))

pub returns-in-Some-sawn : goal.returns-in-Some-sawn
returns-in-Some-sawn t c =
    let so = parted_here t (goal.at.returns-in-Some-sawn t c).In-Some-sawn in
    let saw = rw (c.with_side-sawdust.ensures, c.blade-blade.ensures) at c.squares-in-Saw.ensures.all in
    let areas = areas_saw so _ saw _ _ _ c.part_areas-first.ensures.areas c.part_areas-second.ensures.areas c.with_cut.ensures in
    let told = areas _ _ c.requires.way.2 in
    let all = mul-le-mul c.requires.small.0 c.requires.small.1 in record { areas = areas; small = omega (arith, told.together) }
