-- The table as it is filled: all that are narrower than w, and those as wide as w that are lower than h. Assumes nothing.
use Rattle.std.proofs.Common.{◌≡◌, ℕ, ◌+◌, ◌<◌, ◌≤◌, List, length, set, refl, inl, inr, ⊎_elim, arith}
use Rattle.std.proofs.lemmas.Bool.{cases_lt}
use Rattle.ways.specs.declared.input.Piece.{Piece}
use Rattle.ways.specs.declared.parts.Orientation.{Orientation}
use Rattle.ways.specs.declared.parts.Orientation.TheVariants.{Upright, Level}
use Rattle.ways.specs.Parts.{side_of, with_side}
use Rattle.ways.specs.Sheet.{Way}
use Rattle.worths.specs.Reckoned.{Most, AddsUp}
use Rattle.worths.specs.Table.{place_of, Right}
use Rattle.worths.specs.declared.Values.{Values}
use Rattle.worths.proofs.Cells.{cell_empty, cell_same, cell_other}
use Rattle.worths.proofs.Parts.{Small, empty_wide, empty_high}

module _ (reckoned : ℕ → ℕ → ℕ → Way → ℕ) (ps : List Piece) where
  abbrev pub Narrower : (high w : ℕ) → Values → Type 0
  Narrower high w t = (x y : ℕ) → x < w → y ≤ high → Right reckoned ps t x y

  abbrev pub Lower : (w h : ℕ) → Values → Type 0
  Lower w h t = (y : ℕ) → y < h → Right reckoned ps t w y

  module _ (leaf : ℕ → ℕ → ℕ) (t : Values) (adds : AddsUp (reckoned t.sheet.blade) leaf t.sheet.blade ps) (small : Small leaf) where
    pub narrower_none : (high : ℕ) → Narrower high 1 t
    narrower_none high x y lt le = let e : x ≡ 0 = omega arith in rw (e, cell_empty t.cells 0 y (inl refl)) (empty_wide _ leaf _ ps adds small y)

    pub lower_none : (w : ℕ) → Lower w 1 t
    lower_none w y lt = let e : y ≡ 0 = omega arith in rw (e, cell_empty t.cells w 0 (inr refl)) (empty_high _ leaf _ ps adds small w)

  -- all parts to which a cut can shorten a part are done before it
  pub smaller_done :
      (high w h : ℕ) (t : Values) → h ≤ high → Narrower high w t → Lower w h t → (o : Orientation) (x : ℕ) → x < side_of o w h →
      Right reckoned ps t (with_side o (record { wide = w; high = h }) x).wide (with_side o (record { wide = w; high = h }) x).high
  smaller_done high w h t le narrower lower Upright x lt = narrower x h lt le
  smaller_done high w h t le narrower lower Level y lt = lower y lt

  -- a width is done when all its heights are
  pub narrower_more : (high w h : ℕ) (t : Values) → high < h → Narrower high w t → Lower w h t → Narrower high (w + 1) t
  narrower_more high w h t all narrower lower x y lt le =
      ⊎_elim (λ (less : x < w). narrower x y less le) (λ (ge : w ≤ x). let e : x ≡ w = omega arith in rw e (lower y (omega arith))) (cases_lt x w)

  -- one number is written
  abbrev pub written : Values → (w h v : ℕ) → Values
  written t w h v = record { sheet = t.sheet; cells = set t.cells (place_of w h) v }

  module _ (high w h : ℕ) (t : Values) (v : ℕ) (some : 1 ≤ w) (first : 1 ≤ h) (top : h ≤ 60) (low : high ≤ 60) where
    pub narrower_kept : Narrower high w t → Narrower high w (written t w h v)
    narrower_kept narrower x y lt le = rw (cell_other t.cells w h v x y some first top (omega arith) (λ a b. omega arith)) (narrower x y lt le)

    pub lower_more : place_of w h < length t.cells → Lower w h t → Most (reckoned t.sheet.blade) t.sheet.blade ps w h v → Lower w (h + 1) (written t w h v)
    lower_more within lower most y lt =
        ⊎_elim (λ (less : y < h). rw (cell_other t.cells w h v w y some first top (omega arith) (λ a b. omega arith)) (lower y less))
        (λ (ge : h ≤ y). let e : y ≡ h = omega arith in rw (e, cell_same t.cells w h v some first within) most) (cases_lt y h)
