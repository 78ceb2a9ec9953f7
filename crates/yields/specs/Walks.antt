-- What the walks over nodes keep, which no public contract cites. Assumes nothing: these are definitions.
use Rattle.std.specs.Prelude.{◌≡◌, ℕ, ◌+◌, ◌/◌, ◌≤◌, true, List, length, slice_index}
use Rattle.ways.specs.Judged.{sound}
use Rattle.ways.specs.Nodes.{way_at}
use Rattle.ways.specs.Sheet.{Way, can}
use Rattle.ways.specs.declared.input.Piece.{Piece}
use Rattle.ways.specs.declared.parts.Part.{Part}
use Rattle.yields.specs.Counts.{count_of}
use Rattle.yields.specs.declared.squares.Areas.{Areas}

-- the nodes that are reached from node i on, within so many levels, name later ones only
abbrev pub Sound : List ℕ → (levels i : ℕ) → Type 0
Sound xs l i = sound xs (length xs / 4) l i ≡ true

-- a part can be sawn as node i says, read so many levels deep
abbrev pub Sawable : (blade : ℕ) → List Piece → List ℕ → (levels i : ℕ) → Part → Type 0
Sawable blade ps xs l i p = Sound xs l i × (can blade ps p.wide p.high (way_at xs l i) ≡ true)

-- the counts of a way can be added to these: there is a place for each of its pieces, and no count gets large
pub record RoomFor (a : Way) (counts : List ℕ) : Type 0 where
  pub place : (k : ℕ) → length counts ≤ k → count_of k a ≡ 0
  pub small : (k : ℕ) → slice_index counts k + count_of k a ≤ 3600

-- these areas are no more than the largest sheet has
abbrev pub OneSheet : Areas → Type 0
OneSheet r = r.pieces + r.blade + r.scrap ≤ 3600

-- the areas r of both parts of a cut together, where the cut takes so many squares
pub record WithCut (cut : ℕ) (first second r : Areas) : Type 0 where
  pub pieces : r.pieces ≡ first.pieces + second.pieces
  pub blade : r.blade ≡ cut + (first.blade + second.blade)
  pub scrap : r.scrap ≡ first.scrap + second.scrap
