-- What became of a sheet's squares: pieces, sawdust or scrap. Assumes nothing: these are definitions.
use Rattle.std.specs.Prelude.{◌≡◌, ℕ, ◌+◌, ◌-◌, ◌*◌, List}
use Rattle.theorems.specs.Areas.{area_of}
use Rattle.ways.specs.Sheet.{Way, scrap, take, upright, level}
use Rattle.ways.specs.declared.input.Piece.{Piece}
use Rattle.yields.specs.declared.squares.Areas.{Areas}

-- how many squares the blade takes (the kerf loss): each cut its width, all along
unfoldable pub blade_area : (blade wide high : ℕ) → Way → ℕ
blade_area blade w h scrap = 0
blade_area blade w h (take k) = 0
blade_area blade w h (upright x a b) = blade * h + (blade_area blade x h a + blade_area blade (w - (x + blade)) h b)
blade_area blade w h (level y a b) = w * blade + (blade_area blade w y a + blade_area blade w (h - (y + blade)) b)

-- how many squares are scrap (the trim loss)
unfoldable pub scrap_area : (blade wide high : ℕ) → Way → ℕ
scrap_area blade w h scrap = w * h
scrap_area blade w h (take k) = 0
scrap_area blade w h (upright x a b) = scrap_area blade x h a + scrap_area blade (w - (x + blade)) h b
scrap_area blade w h (level y a b) = scrap_area blade w y a + scrap_area blade w (h - (y + blade)) b

-- these are the areas of a way, and together they are the sheet
pub record AreasAre (blade : ℕ) (ps : List Piece) (wide high : ℕ) (a : Way) (r : Areas) : Type 0 where
  pub to_pieces : r.pieces ≡ area_of ps a
  pub to_blade : r.blade ≡ blade_area blade wide high a
  pub to_scrap : r.scrap ≡ scrap_area blade wide high a
  pub together : r.pieces + r.blade + r.scrap ≡ wide * high
