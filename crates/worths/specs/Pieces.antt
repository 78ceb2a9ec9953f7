-- What a sheet is worth by the pieces that are got from it. Assumes nothing: these are definitions.
use Rattle.std.specs.Prelude.{◌≡◌, ℕ, ◌≤◌, max, cond, ◌&&◌, List, [], ◌∷◌, Some, ◌==◌}
use Rattle.ways.specs.Sheet.{Way, worth_of, Best}
use Rattle.ways.specs.declared.input.Piece.{Piece}
use Rattle.worths.specs.Table.{value_at}
use Rattle.worths.specs.declared.Values.{Values}

-- a sheet so wide and so high is worth v: a best way of it is
abbrev pub WorthIs : (blade : ℕ) → List Piece → (wide high v : ℕ) → Type 0
WorthIs blade ps w h v = (a : Way) × Best blade ps w h a × (worth_of ps a ≡ v)

-- there is a number for every part that is no wider and no higher than the sheet, and it is what that part is worth
abbrev pub WorthsAre : (blade : ℕ) → List Piece → (wide high : ℕ) → Values → Type 0
WorthsAre blade ps wide high t = (w h : ℕ) → w ≤ wide → h ≤ high → (v : ℕ) × (value_at t w h ≡ Some v) × WorthIs blade ps w h v

-- what a piece is worth where a part is just so wide and so high, or 0
unfoldable pub fit_worth : Piece → (wide high : ℕ) → ℕ
fit_worth p w h = cond (p.wide == w && p.high == h) p.worth 0

-- the most that one of them is worth there, or 0: what a part is worth as it lies
unfoldable pub best_fit : List Piece → (wide high : ℕ) → ℕ
best_fit [] w h = 0
best_fit (p ∷ ps) w h = max (fit_worth p w h) (best_fit ps w h)
