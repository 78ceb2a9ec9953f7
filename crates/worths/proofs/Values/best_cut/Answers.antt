use Rattle.std.proofs.Common.{◌≡◌, ◌+◌, ◌-◌, ◌∙◌, arith}
use Rattle.worths.specs.Cuts.{part_of}
use Rattle.worths.proofs.Cells.{part_empty}
use Rattle.worths.proofs.Halves.{tried_none, tried_thin, tried_whole, tried_more, tried_all}
use Rattle.worths.proofs.Values.best_cut.Goals as goal
use Rattle.worths.proofs.Values.best_cut.Goals.{then-may_leave_nothing, else-may_leave_nothing}

pub returns-then-side-blade : goal.returns-then-side-blade
returns-then-side-blade c = tried_none _ _ _ _ (omega (arith, c.side-side.ensures))

pub loop-x-init : goal.loop-x-init
loop-x-init c =
    elim c.if-may_leave_nothing.branch [
      | then-may_leave_nothing w ↦
          tried_whole (part_of c.args.orientation c.args.self.now.cells c.args.place.part) _ _ _ w.part.result _ (part_empty c.args.orientation c.args.self.now.cells c.args.place.part) (omega arith) (omega arith)
          w.part.ensures (w.best-is ∙ w.max-best.ensures)
      | else-may_leave_nothing w ↦ rw w.best-is (tried_thin (part_of c.args.orientation c.args.self.now.cells c.args.place.part) _ _ _ (omega arith))
    ]

pub loop-x-preserved : goal.loop-x-preserved
loop-x-preserved c =
    let far : c.side-side.result - (c.loop-x.x + c.blade-blade.result) ≡ c.side-side.result - c.blade-blade.result - c.loop-x.x = omega arith in
    let e = rw (← far) at c.part-second.ensures in
    tried_more _ _ _ _ _ _ _ _ c.loop-x.invariant (omega (arith, e)) c.max-best-in-loop-x.ensures (omega arith) (omega arith) (omega arith)

pub returns : goal.returns
returns c = rw (← c.side-side.ensures, ← c.blade-blade.ensures) (tried_all _ _ _ _ _ _ (part_empty c.args.orientation c.args.self.now.cells c.args.place.part) c.loop-x.invariant (omega arith))
