use Rattle.worths.specs.Cuts.{part_of}
use Rattle.worths.proofs.Reached.{NoneFrom}
use Rattle.worths.proofs.Values.cut_worth.Given as goal

abbrev pub invariant-loop-x : goal.invariant-loop-x
invariant-loop-x l = NoneFrom (part_of l.orientation l.self.cells l.place.part) l.blade l.side l.worth l.x
