-- What the table says of a part. Assumes nothing.
use Rattle.std.proofs.Common.{◌≡◌, ℕ, ◌<◌, ◌≤◌, ◌&&◌, leb, ◌⊎◌, List, Some, None, Option, sym, ap, ◌∙◌, subst, le_refl, arith}
use Rattle.std.proofs.lemmas.Bool.{cond-true, and_from, le-leb}
use Rattle.std.proofs.lemmas.Bool.Decides.{nat_tests}
use Rattle.ways.specs.Sheet.{worth_of, Best}
use Rattle.ways.specs.declared.checked.Sheet.{Sheet}
use Rattle.ways.specs.declared.input.Piece.{Piece}
use Rattle.worths.specs.Pieces.{WorthIs, WorthsAre}
use Rattle.worths.specs.Table.{cell, value_at, ValuesAre}
use Rattle.worths.specs.declared.Values.{Values}

-- something is said of every part of the sheet
pub value_there : (t : Values) (w h : ℕ) → w ≤ t.sheet.wide → h ≤ t.sheet.high → value_at t w h ≡ Some (cell t.cells w h)
unfolding value_at
value_there t w h p q = cond-true (leb w t.sheet.wide && leb h t.sheet.high) _ _ (and_from _ _ (le-leb w t.sheet.wide p) (le-leb h t.sheet.high q))

-- and nothing beyond it
pub value_beyond : (t : Values) (w h : ℕ) → (t.sheet.wide < w) ⊎ (t.sheet.high < h) → value_at t w h ≡ None
unfolding value_at
value_beyond t w h e = grind (arith, nat_tests)

-- and one thing only
abbrev number : Option ℕ → ℕ
number (Some v) = v
number None = 0

pub value_once : (t : Values) (w h u v : ℕ) → value_at t w h ≡ Some u → value_at t w h ≡ Some v → u ≡ v
value_once t w h u v p q = ap number (sym p ∙ q)

module _ (ps : List Piece) (t : Values) where
  said : ValuesAre (λ blade w h. worth_of ps) ps t → WorthsAre t.sheet.blade ps t.sheet.wide t.sheet.high t
  unfolding Best
  said values w h p q =
      let m = values w h p q in
      (cell t.cells w h, value_there t w h p q, (m.way, (m.able, λ b e. omega (arith, m.worth, m.tops b e)), m.worth))

  -- it is what the parts of that sheet are worth
  pub worths_are : (s : Sheet) → t.sheet ≡ s → ValuesAre (λ blade w h. worth_of ps) ps t → WorthsAre s.blade ps s.wide s.high t
  worths_are s e values = subst (λ (z : Sheet). WorthsAre z.blade ps z.wide z.high t) e (said values)

  pub whole_worth :
      (s : Sheet) (v : ℕ) → t.sheet ≡ s → WorthsAre s.blade ps s.wide s.high t → value_at t t.sheet.wide t.sheet.high ≡ Some v →
      WorthIs s.blade ps s.wide s.high v
  whole_worth s v e worths whole =
      let here = subst (λ (z : Sheet). value_at t z.wide z.high ≡ Some v) e whole in
      let m = worths s.wide s.high (le_refl _) (le_refl _) in
      rw (value_once t s.wide s.high v m.0 here m.1) m.2
