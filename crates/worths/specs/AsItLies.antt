-- What lies uncut where a part isn't sawn. Assumes nothing: these are definitions.
use Rattle.std.specs.Prelude.{◌≡◌, ℕ, ◌<◌, true, List, Some, None, Option}
use Rattle.ways.specs.declared.input.Piece.{Piece}
use Rattle.ways.specs.Sheet.{Way, scrap, take, piece_fits, worth_at}
use Rattle.worths.specs.Pieces.{best_fit}

-- what lies there uncut: a piece that fits and is worth the most, and more than scrap; or scrap, where no piece is worth more
abbrev pub Lies : (reckoned : (wide high : ℕ) → Way → ℕ) → (leaf : (wide high : ℕ) → ℕ) → List Piece → (wide high : ℕ) → Option ℕ → Type 0
Lies reckoned leaf ps w h (Some k) = (piece_fits ps k w h ≡ true) × (reckoned w h (take k) ≡ leaf w h) × (reckoned w h scrap < leaf w h)
Lies reckoned leaf ps w h None = reckoned w h scrap ≡ leaf w h

-- a piece that is worth so much there, or none where that is 0
abbrev pub Fitting : List Piece → (wide high : ℕ) → Option ℕ → Type 0
Fitting ps w h (Some k) = (piece_fits ps k w h ≡ true) × (worth_at ps k ≡ best_fit ps w h) × (0 < best_fit ps w h)
Fitting ps w h None = 0 ≡ best_fit ps w h
