use Rattle.std.proofs.Common.{◌≡◌, ◌+◌, ◌-◌, ◌∙◌, arith}
use Rattle.worths.specs.Cuts.{part_of}
use Rattle.worths.proofs.Cells.{part_empty}
use Rattle.worths.proofs.Reached.{none_short, none_more, none_at_all, reached, reached_whole}
use Rattle.worths.proofs.Values.cut_worth.Goals as goal
use Rattle.worths.proofs.Values.cut_worth.Goals.{else-ends_in_the_blade-via-then-ends_in_the_blade+else-part-worth, else-ends_in_the_blade-via-else-ends_in_the_blade}

pub returns-then-side-blade : goal.returns-then-side-blade
returns-then-side-blade c = rw (← c.side-side.ensures, ← c.blade-blade.ensures) (none_short _ _ _ _ c.if-side-blade.true)

pub returns-then-first-second : goal.returns-then-first-second
returns-then-first-second c =
    rw (← c.side-side.ensures, ← c.blade-blade.ensures)
    (reached (part_of c.args.orientation c.args.self.now.cells c.args.place.part) _ _ _ _ _ _ (omega arith) (omega arith) c.part-first.ensures c.part-second.ensures
    c.if-first-second.true)

pub loop-x-preserved : goal.loop-x-preserved
loop-x-preserved c =
    let f = part_of c.args.orientation c.args.self.now.cells c.args.place.part in
    let before : c.loop-x.x - 1 + 1 ≡ c.loop-x.x = omega arith in
    none_more f _ _ _ (c.loop-x.x - 1) _ _ c.part-first.ensures c.part-second.ensures c.if-first-second.false (rw before c.loop-x.invariant)

pub returns-then-part-worth : goal.returns-then-part-worth
returns-then-part-worth c =
    rw (← c.side-side.ensures, ← c.blade-blade.ensures)
    (reached_whole (part_of c.args.orientation c.args.self.now.cells c.args.place.part) _ _ _ (part_empty c.args.orientation c.args.self.now.cells c.args.place.part) (omega arith) _ (omega arith) c.part.ensures
    c.if-part-worth.true)

pub returns : goal.returns
returns c =
    rw (← c.side-side.ensures, ← c.blade-blade.ensures)
    (none_at_all (part_of c.args.orientation c.args.self.now.cells c.args.place.part) _ _ _ (part_empty c.args.orientation c.args.self.now.cells c.args.place.part) (omega arith)
    (λ y some half sum. c.loop-x.invariant y (omega arith) half sum)
    (λ thick whole.
    elim c.else-ends_in_the_blade.branch [
      | else-ends_in_the_blade-via-then-ends_in_the_blade+else-part-worth w ↦ w.if-part-worth.false (w.part.ensures ∙ whole)
      | else-ends_in_the_blade-via-else-ends_in_the_blade w ↦ omega arith
    ]))
