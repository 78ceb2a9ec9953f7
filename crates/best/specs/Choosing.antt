-- What has to hold of the table for a part to be asked for, and how many nodes it may have. Assumes nothing: these are
-- definitions.
use Rattle.std.specs.Prelude.{ℕ, ◌-◌, ◌*◌, ◌≤◌, max, List}
use Rattle.ways.specs.Sheet.{Way}
use Rattle.ways.specs.declared.input.Piece.{Piece}
use Rattle.worths.specs.Table.{ValuesAre}
use Rattle.worths.specs.declared.Values.{Values}

-- the table is right, and the part is no wider and no higher than the sheet
pub record Ready (reckoned : (blade wide high : ℕ) → Way → ℕ) (ps : List Piece) (t : Values) (wide high : ℕ) : Type 0 where
  pub right : ValuesAre reckoned ps t
  pub narrow : wide ≤ t.sheet.wide
  pub low : high ≤ t.sheet.high

-- so many nodes besides the first are enough for a part: two for each square but one, where an empty side counts as 1
unfoldable pub spare_nodes : (wide high : ℕ) → ℕ
spare_nodes w h = 2 * (max 1 w * max 1 h) - 2
