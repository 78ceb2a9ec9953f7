-- The parts that a sheet is sawn into, and the cuts through it, whichever way. Assumes nothing: these are definitions.
use Rattle.std.specs.Prelude.{◌≡◌, ℕ, ◌+◌, ◌-◌, true, List, codes}
use Rattle.ways.specs.Sheet.{Way, upright, level, cut_ok}
use Rattle.ways.specs.declared.nodes.Cut.{Cut}
use Rattle.ways.specs.declared.parts.Orientation.{Orientation}
use Rattle.ways.specs.declared.parts.Orientation.TheVariants.{Upright, Level}
use Rattle.ways.specs.declared.parts.Part.{Part}

-- the side that a cut shortens
abbrev pub side_of : Orientation → (wide high : ℕ) → ℕ
side_of Upright w h = w
side_of Level w h = h

-- what it is called
abbrev pub word_of : Orientation → List ℕ
word_of Upright = codes "upright"
word_of Level = codes "level"

-- the same part with that side so long
abbrev pub with_side : Orientation → Part → (side : ℕ) → Part
with_side Upright p x = record { wide = x; high = p.high }
with_side Level p y = record { wide = p.wide; high = y }

-- it is sawn through so far from the beginning of that side, into two parts
abbrev pub sawn : Orientation → (at : ℕ) → (first second : Way) → Way
sawn Upright = upright
sawn Level = level

-- the cut of a part at x that way may be made, and leaves these two parts
pub record CutsAt (blade : ℕ) (p : Part) (o : Orientation) (x : ℕ) (c : Cut Part) : Type 0 where
  pub allowed : cut_ok blade (side_of o p.wide p.high) x ≡ true
  pub oriented : c.orientation ≡ o
  pub at : c.at ≡ x
  pub first : c.first ≡ with_side o p x
  pub second : c.second ≡ with_side o p (side_of o p.wide p.high - (x + blade))
