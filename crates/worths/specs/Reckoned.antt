-- What a sheet is worth, however ways are reckoned. Assumes nothing: these are definitions.
use Rattle.std.specs.Prelude.{◌≡◌, ℕ, ◌≤◌, true, ◌⊎◌, List}
use Rattle.ways.specs.Adding.{Adds}
use Rattle.ways.specs.declared.input.Piece.{Piece}
use Rattle.ways.specs.Sheet.{Way, scrap, take, can, piece_fits}

-- some way of sawing a sheet so wide and so high is worth v, and no way whatever that can be sawn is worth more
pub record Most (reckoned : (wide high : ℕ) → Way → ℕ) (blade : ℕ) (ps : List Piece) (wide high v : ℕ) : Type 0 where
  pub way : Way
  pub able : can blade ps wide high way ≡ true
  pub worth : reckoned wide high way ≡ v
  pub tops : (b : Way) → can blade ps wide high b ≡ true → reckoned wide high b ≤ v

-- what ways are worth adds up over cuts, and `leaf` is the most that a part is worth as it lies: no less than scrap and each
-- piece that fits, and as much as one of them
pub record AddsUp (reckoned : (wide high : ℕ) → Way → ℕ) (leaf : (wide high : ℕ) → ℕ) (blade : ℕ) (ps : List Piece) : Type 0 where
  pub cuts : Adds blade reckoned
  pub scraps : (w h : ℕ) → reckoned w h scrap ≤ leaf w h
  pub takes : (w h k : ℕ) → piece_fits ps k w h ≡ true → reckoned w h (take k) ≤ leaf w h
  pub comes : (w h : ℕ) → (reckoned w h scrap ≡ leaf w h) ⊎ ((k : ℕ) × (piece_fits ps k w h ≡ true) × (reckoned w h (take k) ≡ leaf w h))
