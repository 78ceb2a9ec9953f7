-- What adds up over cuts. Assumes nothing: this is a definition.
use Rattle.std.specs.Prelude.{◌≡◌, ℕ, ◌+◌, ◌-◌}
use Rattle.ways.specs.Sheet.{Way, upright, level}

-- what a cut through a part so wide and so high has is what its two parts have together
pub record Adds (blade : ℕ) (value : (wide high : ℕ) → Way → ℕ) : Type 0 where
  pub uprights : (w h x : ℕ) (a b : Way) → value w h (upright x a b) ≡ value x h a + value (w - (x + blade)) h b
  pub levels : (w h y : ℕ) (a b : Way) → value w h (level y a b) ≡ value w y a + value w (h - (y + blade)) b
