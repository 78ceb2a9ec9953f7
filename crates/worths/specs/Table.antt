-- The table: a number for each width and height. Assumes nothing: these are definitions.
use Rattle.std.specs.Prelude.{ℕ, zero, suc, ◌+◌, ◌-◌, ◌*◌, ◌≤◌, cond, ◌&&◌, List, Some, None, Option, nat_le, slice_index}
use Rattle.ways.specs.Sheet.{Way}
use Rattle.ways.specs.declared.input.Piece.{Piece}
use Rattle.ways.specs.declared.parts.Part.{Part}
use Rattle.worths.specs.Reckoned.{Most}
use Rattle.worths.specs.declared.Values.{Values}

-- where the number for a part so wide and so high stands: 60 heights for each width
abbrev pub place_of : (wide high : ℕ) → ℕ
place_of w h = (w - 1) * 60 + (h - 1)

-- a part has such a place: it isn't empty, and no side is above 60
abbrev pub HasPlace : Part → Type 0
HasPlace p = (1 ≤ p.wide) × (p.wide ≤ 60) × (1 ≤ p.high) × (p.high ≤ 60)

-- the number for a part; an empty one has no place, and 0 stands for it
unfoldable pub cell : List ℕ → (wide high : ℕ) → ℕ
cell xs zero h = 0
cell xs (suc w) zero = 0
cell xs (suc w) (suc h) = slice_index xs (place_of (suc w) (suc h))

-- what is said of a part; nothing is said of one that is wider or higher than the sheet
unfoldable pub value_at : Values → (wide high : ℕ) → Option ℕ
value_at t w h = cond (nat_le w t.sheet.wide && nat_le h t.sheet.high) (Some (cell t.cells w h)) None

-- the number for a part is what the part is worth
abbrev pub Right : (reckoned : (blade w h : ℕ) → Way → ℕ) → List Piece → Values → (wide high : ℕ) → Type 0
Right reckoned ps t w h = Most (reckoned t.sheet.blade) t.sheet.blade ps w h (cell t.cells w h)

-- so it is for all parts that are no wider and no higher than the sheet
abbrev pub ValuesAre : (reckoned : (blade w h : ℕ) → Way → ℕ) → List Piece → Values → Type 0
ValuesAre reckoned ps t = (w h : ℕ) → w ≤ t.sheet.wide → h ≤ t.sheet.high → Right reckoned ps t w h
