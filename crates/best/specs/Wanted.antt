-- What is wanted of the way in which a sheet is sawn. Assumes nothing: these are definitions.
use Rattle.std.specs.Prelude.{◌≡◌, ℕ, ◌+◌, ◌-◌, ◌<◌, ◌≤◌, true, List}
use Rattle.ways.specs.Sheet.{Way, scrap, take, upright, level, can}
use Rattle.ways.specs.declared.input.Piece.{Piece}

-- it can be sawn, and no way whatever that can be sawn is worth more, however ways are reckoned
abbrev pub Top : (reckoned : (wide high : ℕ) → Way → ℕ) → (blade : ℕ) → List Piece → (wide high : ℕ) → Way → Type 0
Top reckoned blade ps w h a = (can blade ps w h a ≡ true) × ((b : Way) → can blade ps w h b ≡ true → reckoned w h b ≤ reckoned w h a)

-- nothing is done in vain: a piece is taken only where scrap is worth less, and a part is sawn only where that makes it worth
-- more than it is as it lies
unfoldable pub Thrifty : (reckoned : (wide high : ℕ) → Way → ℕ) → (leaf : (wide high : ℕ) → ℕ) → (blade wide high : ℕ) → Way → Type 0
Thrifty reckoned leaf blade w h scrap = Unit {0}
Thrifty reckoned leaf blade w h (take k) = reckoned w h scrap < reckoned w h (take k)
Thrifty reckoned leaf blade w h (upright x a b) = (leaf w h < reckoned w h (upright x a b)) × Thrifty reckoned leaf blade x h a × Thrifty reckoned leaf blade (w - (x + blade)) h b
Thrifty reckoned leaf blade w h (level y a b) = (leaf w h < reckoned w h (level y a b)) × Thrifty reckoned leaf blade w y a × Thrifty reckoned leaf blade w (h - (y + blade)) b

-- both: what is wanted of each part's way
pub record BestFor (reckoned : (wide high : ℕ) → Way → ℕ) (leaf : (wide high : ℕ) → ℕ) (blade : ℕ) (ps : List Piece) (wide high : ℕ) (a : Way) : Type 0 where
  pub top : Top reckoned blade ps wide high a
  pub thrifty : Thrifty reckoned leaf blade wide high a

-- and of the sheet's, which is worth v
pub record BestWorth (reckoned : (wide high : ℕ) → Way → ℕ) (leaf : (wide high : ℕ) → ℕ) (blade : ℕ) (ps : List Piece) (wide high v : ℕ) (a : Way) : Type 0 where
  pub best : BestFor reckoned leaf blade ps wide high a
  pub worth : reckoned wide high a ≡ v
