-- The pieces that are held. Assumes nothing: this is a definition.
use Rattle.std.specs.Prelude.{List, take}
use Rattle.ways.specs.declared.input.Piece.{Piece}
use Rattle.ways.specs.declared.checked.Pieces.{Pieces}

abbrev pub pieces_of : Pieces → List Piece
pieces_of s = take s.count s.list
