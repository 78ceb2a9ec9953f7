-- The cuts of a part, upright or level, and the best of them. Assumes nothing: these are definitions.
use Rattle.std.specs.Prelude.{◌≡◌, ℕ, ◌+◌, ◌-◌, ◌≤◌, true, ◌⊎◌, List}
use Rattle.ways.specs.Parts.{with_side}
use Rattle.ways.specs.Sheet.{cut_ok}
use Rattle.ways.specs.declared.parts.Orientation.{Orientation}
use Rattle.ways.specs.declared.parts.Part.{Part}
use Rattle.worths.specs.Table.{cell}

-- what the table says of a part whose shortened side is x long
abbrev pub part_of : Orientation → List ℕ → Part → (x : ℕ) → ℕ
part_of o xs p x = cell xs (with_side o p x).wide (with_side o p x).high

-- r is the best of `before` and of all cuts of a side, where f is what a part is worth whose side is so long
pub record BestCut (f : ℕ → ℕ) (blade side before r : ℕ) : Type 0 where
  pub least : before ≤ r
  pub most : (x : ℕ) → cut_ok blade side x ≡ true → f x + f (side - (x + blade)) ≤ r
  pub came : (r ≡ before) ⊎ ((x : ℕ) × (cut_ok blade side x ≡ true) × (r ≡ f x + f (side - (x + blade))))
