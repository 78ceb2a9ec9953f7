-- Small sheets whose best way is known. Assumes nothing: these are statements.
use Rattle.std.specs.Prelude.{◌≡◌, ℕ, List, [], ◌∷◌}
use Rattle.ways.specs.Sheet.{Way, scrap, take, upright, worth_of, Best}
use Rattle.ways.specs.declared.input.Piece.{Piece}

abbrev pub piece : (wide high worth : ℕ) → Piece
piece w h v = record { wide = w; high = h; worth = v }

abbrev pub three : List Piece
three = piece 4 3 12 ∷ piece 3 2 5 ∷ piece 5 6 31 ∷ []

abbrev pub one : List Piece
one = piece 4 3 12 ∷ []

-- a best way, and what it is worth
abbrev pub BestWorth : (blade : ℕ) → List Piece → (wide high : ℕ) → Way → (worth : ℕ) → Type 0
BestWorth blade ps w h a v = Best blade ps w h a × (worth_of ps a ≡ v)

-- two of the third piece, beside each other
abbrev pub TwoDoors : Type 0
TwoDoors = BestWorth 0 three 10 6 (upright 5 (take 2) (take 2)) 62

-- the piece itself
abbrev pub JustIt : Type 0
JustIt = BestWorth 0 one 4 3 (take 0) 12

-- a strip off, and the piece
abbrev pub AStripOff : Type 0
AStripOff = BestWorth 0 one 5 3 (upright 1 scrap (take 0)) 12
