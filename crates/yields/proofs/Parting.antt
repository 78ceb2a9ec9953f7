-- The areas of a part, from those of its parts. Assumes nothing.
use Rattle.std.proofs.Common.{◌≡◌, ℕ, ◌+◌, ◌-◌, ◌*◌, true, List, Some, refl, add-mul, mul-add, arith}
use Rattle.theorems.specs.Areas.{area_of}
use Rattle.theorems.proofs.Filled.{fits_area}
use Rattle.ways.specs.Nodes.{node_at, way_at}
use Rattle.ways.specs.Parts.{side_of, with_side, sawn, CutsAt}
use Rattle.ways.specs.Sheet.{Way, cut_ok, can}
use Rattle.ways.specs.declared.input.Piece.{Piece}
use Rattle.ways.specs.declared.nodes.Cut.{Cut}
use Rattle.ways.specs.declared.nodes.Node.TheVariants.{Saw}
use Rattle.ways.specs.declared.parts.Orientation.{Orientation}
use Rattle.ways.specs.declared.parts.Orientation.TheVariants.{Upright, Level}
use Rattle.ways.specs.declared.parts.Part.{Part}
use Rattle.ways.proofs.Cuts.{Cut as CutOk, cut_ok_parts, cut_ok_from, sawn_parts}
use Rattle.yields.specs.Squares.{blade_area, scrap_area, AreasAre}
use Rattle.yields.specs.Walks.{Sound, Sawable, WithCut}
use Rattle.yields.specs.declared.squares.Areas.{Areas}
use Rattle.yields.proofs.Reading.{reading, says_saw}

-- what is beyond the blade, where a part is sawn through at x
abbrev pub beyond : (blade : ℕ) → Orientation → Part → (x : ℕ) → Part
beyond blade o p x = with_side o p (side_of o p.wide p.high - (x + blade))

-- how many squares a part has
abbrev pub all_of : Part → ℕ
all_of p = p.wide * p.high

-- both parts of a cut and what the blade takes are the part
all_sawn :
    (blade : ℕ) (o : Orientation) (p : Part) (x : ℕ) → CutOk blade (side_of o p.wide p.high) x →
    all_of (with_side o p x) + (all_of (with_side o p blade) + all_of (beyond blade o p x)) ≡ all_of p
all_sawn blade Upright p x c =
    let whole : p.wide ≡ x + (blade + (p.wide - (x + blade))) = omega arith in
    rw (← add-mul blade (p.wide - (x + blade)) p.high, ← add-mul x (blade + (p.wide - (x + blade))) p.high, ← whole) refl
all_sawn blade Level p y c =
    let whole : p.high ≡ y + (blade + (p.high - (y + blade))) = omega arith in
    rw (← mul-add p.wide blade (p.high - (y + blade)), ← mul-add p.wide y (blade + (p.high - (y + blade))), ← whole) refl

-- the areas of a part that is sawn are those of both parts, and of the cut
pub areas_sawn :
    (blade : ℕ) (ps : List Piece) (o : Orientation) (p : Part) (x : ℕ) (a b : Way) (f s r : Areas) →
    let near = with_side o p x in
    let far = beyond blade o p x in
    CutOk blade (side_of o p.wide p.high) x → AreasAre blade ps near.wide near.high a f → AreasAre blade ps far.wide far.high b s →
    WithCut (all_of (with_side o p blade)) f s r → AreasAre blade ps p.wide p.high (sawn o x a b) r
unfolding area_of blade_area scrap_area
areas_sawn blade ps Upright p x a b f s r ok first second cut =
    record { to_pieces = omega arith; to_blade = omega arith; to_scrap = omega arith; together = omega (arith, all_sawn blade Upright p x ok) }
areas_sawn blade ps Level p y a b f s r ok first second cut =
    record { to_pieces = omega arith; to_blade = omega arith; to_scrap = omega arith; together = omega (arith, all_sawn blade Level p y ok) }

-- r are the areas of a part, sawn as node i says
abbrev pub AreasFrom : (blade : ℕ) → List ℕ → (i : ℕ) → Part → Areas → Type 0
AreasFrom blade xs i p r = (ps : List Piece) (l : ℕ) → Sawable blade ps xs l i p → AreasAre blade ps p.wide p.high (way_at xs l i) r

-- a part that can be sawn as a cut says, the blade may saw through there
pub may_saw :
    (blade : ℕ) (ps : List Piece) (xs : List ℕ) (l i : ℕ) (p : Part) (c : Cut ℕ) → node_at xs i ≡ Some (Saw c) → Sound xs l i →
    can blade ps p.wide p.high (way_at xs l i) ≡ true → cut_ok blade (side_of c.orientation p.wide p.high) c.at ≡ true
may_saw blade ps xs l i p c is sound able =
    cut_ok_from blade _ c.at (sawn_parts blade ps c.orientation p c.at _ _ (rw (says_saw xs i c is l sound).says at able)).0

-- of whatever node, for `grind`
pub ruleset parting = (reading, may_saw, fits_area)

-- node i is a cut of its part, and these are both its parts
pub record Parted (blade : ℕ) (xs : List ℕ) (i : ℕ) (p : Part) (c : Cut ℕ) (parts : Cut Part) : Type 0 where
  pub says : node_at xs i ≡ Some (Saw c)
  pub cuts : CutsAt blade p c.orientation c.at parts

module _ {blade : ℕ} {xs : List ℕ} {i : ℕ} {p : Part} {c : Cut ℕ} {parts : Cut Part} (so : Parted blade xs i p c parts) where
  -- they can be sawn as the nodes say that it names
  pub both_sawable :
      (ps : List Piece) (l : ℕ) (able : Sawable blade ps xs l i p) →
      let s = says_saw xs i c so.says l able.0 in Sawable blade ps xs s.deep c.first parts.first × Sawable blade ps xs s.deep c.second parts.second
  both_sawable ps l able =
      let s = says_saw xs i c so.says l able.0 in
      let q = sawn_parts blade ps c.orientation p c.at _ _ (rw s.says at able.1) in ((s.first, rw so.cuts.first q.1), (s.second, rw so.cuts.second q.2))

  pub areas_saw :
      (saw : ℕ) → saw ≡ all_of (with_side c.orientation p blade) → (f s r : Areas) →
      AreasFrom blade xs c.first parts.first f → AreasFrom blade xs c.second parts.second s → WithCut saw f s r → AreasFrom blade xs i p r
  areas_saw saw e f s r first second with_cut ps l able =
      let both = both_sawable ps l able in
      rw (says_saw xs i c so.says l able.0).says
      (areas_sawn blade ps c.orientation p c.at _ _ f s r (cut_ok_parts _ _ _ so.cuts.allowed) (rw so.cuts.first at (first ps _ both.0)) (rw so.cuts.second at (second ps _ both.1)) (rw e at with_cut))
