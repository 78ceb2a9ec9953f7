-- The pieces that a job names. Assumes nothing: these are definitions.
use Rattle.std.specs.Prelude.{ℕ, List, [], ◌∷◌}
use Rattle.ways.specs.declared.input.Piece.{Piece}
use Rattle.mudrieng.specs.declared.jobs.Named.{Named}

-- the pieces, without their names
abbrev pub pieces_named : List Named → List Piece
pieces_named [] = []
pieces_named (n ∷ ns) = n.piece ∷ pieces_named ns

-- three numbers for each: its width, its height and its worth
abbrev pub numbers_named : List Named → List ℕ
numbers_named [] = []
numbers_named (n ∷ ns) = n.piece.wide ∷ n.piece.high ∷ n.piece.worth ∷ numbers_named ns
