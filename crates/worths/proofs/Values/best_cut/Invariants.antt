use Rattle.worths.specs.Cuts.{part_of}
use Rattle.worths.proofs.Halves.{Tried}
use Rattle.worths.proofs.Values.best_cut.Given as goal

abbrev pub invariant-loop-x : goal.invariant-loop-x
invariant-loop-x l = Tried (part_of l.orientation l.self.cells l.place.part) l.blade l.side l.before l.x l.best
