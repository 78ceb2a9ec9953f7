-- Pieces and ways turned by a quarter: what was upright is level. Assumes nothing: these are definitions.
use Rattle.std.specs.Prelude.{List, [], ◌∷◌}
use Rattle.ways.specs.Sheet.{Way, scrap, take, upright, level}
use Rattle.ways.specs.declared.input.Piece.{Piece}

unfoldable pub turned : List Piece → List Piece
turned [] = []
turned (p ∷ ps) = record { wide = p.high; high = p.wide; worth = p.worth } ∷ turned ps

unfoldable pub turned_way : Way → Way
turned_way scrap = scrap
turned_way (take k) = take k
turned_way (upright x a b) = level x (turned_way a) (turned_way b)
turned_way (level y a b) = upright y (turned_way a) (turned_way b)
