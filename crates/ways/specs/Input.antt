-- Pieces as they are given: three numbers each. Assumes nothing: these are definitions.
use Rattle.std.specs.Prelude.{ℕ, Bool, true, ◌&&◌, List, [], ◌∷◌, nat_le, slice_index}
use Rattle.ways.specs.declared.input.Piece.{Piece}

-- a piece has a width and a height, and is worth 100,000 at most
unfoldable pub piece_ok : Piece → Bool
piece_ok p = nat_le 1 p.wide && (nat_le 1 p.high && nat_le p.worth 100000)

-- all of them are so
unfoldable pub pieces_ok : List Piece → Bool
pieces_ok [] = true
pieces_ok (p ∷ ps) = piece_ok p && pieces_ok ps

-- the piece that three numbers stand for: its width, its height and its worth
abbrev pub piece_from : List ℕ → Piece
piece_from xs = record { wide = slice_index xs 0; high = slice_index xs 1; worth = slice_index xs 2 }

-- the pieces that numbers stand for: the width, the height and the worth of each
unfoldable pub pieces_in : List ℕ → List Piece
pieces_in [] = []
pieces_in (a ∷ []) = []
pieces_in (a ∷ (b ∷ [])) = []
pieces_in (a ∷ (b ∷ (c ∷ xs))) = record { wide = a; high = b; worth = c } ∷ pieces_in xs
