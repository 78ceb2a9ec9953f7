-- How many squares the pieces of a way fill. Assumes nothing: these are definitions.
use Rattle.std.specs.Prelude.{ℕ, zero, suc, ◌+◌, ◌*◌, List, [], ◌∷◌}
use Rattle.ways.specs.Sheet.{Way, scrap, take, upright, level}
use Rattle.ways.specs.declared.input.Piece.{Piece}

-- the area of piece k
unfoldable pub area_at : List Piece → (k : ℕ) → ℕ
area_at [] k = 0
area_at (p ∷ ps) zero = p.wide * p.high
area_at (p ∷ ps) (suc k) = area_at ps k

-- the area of all pieces of a way
unfoldable pub area_of : List Piece → Way → ℕ
area_of ps scrap = 0
area_of ps (take k) = area_at ps k
area_of ps (upright x a b) = area_of ps a + area_of ps b
area_of ps (level y a b) = area_of ps a + area_of ps b
