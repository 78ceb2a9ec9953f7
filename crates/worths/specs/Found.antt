-- A cut whose two parts are worth what the part is. Assumes nothing: these are definitions.
use Rattle.std.specs.Prelude.{◌≡◌, ℕ, ◌+◌, ◌-◌, ◌≤◌, true, Some, None, Option, ◌≢◌}
use Rattle.ways.specs.Parts.{side_of, CutsAt}
use Rattle.ways.specs.Sheet.{cut_ok}
use Rattle.ways.specs.declared.nodes.Cut.{Cut}
use Rattle.ways.specs.declared.parts.Orientation.{Orientation}
use Rattle.ways.specs.declared.parts.Part.{Part}
use Rattle.worths.specs.Cuts.{part_of}
use Rattle.worths.specs.Table.{cell}
use Rattle.worths.specs.declared.Values.{Values}

-- a cut of a side whose two parts are worth v together, if a part whose side is so long is worth what f says; none where there
-- is no such cut
abbrev pub Reaching : (f : ℕ → ℕ) → (blade side v : ℕ) → Option ℕ → Type 0
Reaching f blade side v (Some x) = (cut_ok blade side x ≡ true) × (f x + f (side - (x + blade)) ≡ v)
Reaching f blade side v None = (x : ℕ) → cut_ok blade side x ≡ true → f x + f (side - (x + blade)) ≢ v

-- a part that isn't empty, no wider and no higher than the sheet
pub record Inside (t : Values) (p : Part) : Type 0 where
  pub some_wide : 1 ≤ p.wide
  pub some_high : 1 ≤ p.high
  pub narrow : p.wide ≤ t.sheet.wide
  pub low : p.high ≤ t.sheet.high

-- a cut of such a part, of that orientation, into its two parts; together they are worth what it is, as the table says
pub record FoundCut (t : Values) (o : Orientation) (p : Part) (c : Cut Part) : Type 0 where
  pub inside : Inside t p
  pub cuts : CutsAt t.sheet.blade p o c.at c
  pub sum : cell t.cells c.first.wide c.first.high + cell t.cells c.second.wide c.second.high ≡ cell t.cells p.wide p.high

-- such a cut, or none where no cut of that orientation is one
abbrev pub CutFound : Values → Orientation → Part → Option (Cut Part) → Type 0
CutFound t o p (Some c) = FoundCut t o p c
CutFound t o p None = Inside t p → Reaching (part_of o t.cells p) t.sheet.blade (side_of o p.wide p.high) (cell t.cells p.wide p.high) None
