use Rattle.std.proofs.Common.{◌≡◌, ◌++◌, drop}
use Rattle.mudrieng.specs.Jobs.{numbers_named}
use Rattle.mudrieng.proofs.jobs.Job.numbers.Given as goal

abbrev pub invariant-loop-piece : goal.invariant-loop-piece
invariant-loop-piece l =
    record { all : l.piece-items ≡ l.self.pieces.items; told : l.numbers.items ++ numbers_named (drop l.piece-index l.piece-items) ≡ numbers_named l.piece-items }
