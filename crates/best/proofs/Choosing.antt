-- Choosing by a table that is right: what comes to the table's number is a best way. Assumes nothing.
use Rattle.std.proofs.Common.{◌≡◌, ℕ, zero, suc, ◌+◌, ◌-◌, ◌*◌, ◌<◌, ◌≤◌, true, List, Some, None, Option, MatchOption, sym, refl, ap, ◌∙◌, subst, inl, inr, mul-zero, zero-mul, arith}
use Rattle.std.proofs.lemmas.Bool.{cases_lt}
use Rattle.std.proofs.lemmas.Option.{same_Some, none-some}
use Rattle.ways.specs.Parts.{side_of, with_side, sawn}
use Rattle.ways.specs.Sheet.{Way, scrap, take, upright, level, can}
use Rattle.ways.specs.declared.input.Piece.{Piece}
use Rattle.ways.specs.declared.nodes.Cut.{Cut}
use Rattle.ways.specs.declared.parts.Orientation.{Orientation}
use Rattle.ways.specs.declared.parts.Orientation.TheVariants.{Upright, Level}
use Rattle.ways.specs.declared.parts.Part.{Part}
use Rattle.ways.proofs.Cuts.{cut_ok_parts, cut_ok_from, sawn_parts, sawn_from, sawn_adds, smaller}
use Rattle.worths.specs.Found.{Inside, FoundCut, CutFound}
use Rattle.worths.specs.AsItLies.{Lies}
use Rattle.worths.specs.Reckoned.{AddsUp}
use Rattle.worths.specs.Table.{cell, ValuesAre}
use Rattle.worths.specs.declared.Values.{Values}
use Rattle.worths.proofs.Cells.{cell_empty}
use Rattle.worths.proofs.Parts.{Small}
use Rattle.best.specs.Wanted.{Top, Thrifty, BestFor}

-- a part that is sawn makes it worth more, and so does what is sawn of both its parts
thrifty_sawn :
    (reckoned : ℕ → ℕ → Way → ℕ) (leaf : ℕ → ℕ → ℕ) (blade : ℕ) (o : Orientation) (p : Part) (x : ℕ) (a b : Way) →
    let near = with_side o p x in
    let far = with_side o p (side_of o p.wide p.high - (x + blade)) in
    leaf p.wide p.high < reckoned p.wide p.high (sawn o x a b) → Thrifty reckoned leaf blade near.wide near.high a → Thrifty reckoned leaf blade far.wide far.high b →
    Thrifty reckoned leaf blade p.wide p.high (sawn o x a b)
unfolding Thrifty
thrifty_sawn reckoned leaf blade Upright p x a b more first second = (more, first, second)
thrifty_sawn reckoned leaf blade Level p y a b more first second = (more, first, second)

-- both parts of a cut of a part of the sheet are parts of it too
pub within_sheet :
    (t : Values) (p : Part) → p.wide ≤ t.sheet.wide → p.high ≤ t.sheet.high → (o : Orientation) (q : Part) (x : ℕ) → q ≡ with_side o p x → x < side_of o p.wide p.high →
    (q.wide ≤ t.sheet.wide) × (q.high ≤ t.sheet.high)
within_sheet t p narrow low o q x is less = let s = smaller o p q x is less in (omega (arith, s.narrow), omega (arith, s.low))

-- a cut that was looked for upright and then level: r is what the first search found, and s is r or what the second did
module _ (t : Values) (p : Part) (r s : Option (Cut Part)) (upright_found : CutFound t Upright p r) (Second : Type 0) (told : MatchOption r Second (λ c. s ≡ Some c)) (level_found : Second → CutFound t Level p s) where
  pub some_found : (c : Cut Part) → s ≡ Some c → (o : Orientation) × FoundCut t o p c
  some_found c is = by_first r upright_found told where
    by_first : (r : Option (Cut Part)) → CutFound t Upright p r → MatchOption r Second (λ c. s ≡ Some c) → (o : Orientation) × FoundCut t o p c
    by_first None none k = (Level, rw is at (level_found k))
    by_first (Some d) found k = (Upright, subst (FoundCut t Upright p) (same_Some d c (sym k ∙ is)) found)

  pub none_found : s ≡ None → CutFound t Upright p None × CutFound t Level p None
  none_found is = by_first r upright_found told where
    by_first : (r : Option (Cut Part)) → CutFound t Upright p r → MatchOption r Second (λ c. s ≡ Some c) → CutFound t Upright p None × CutFound t Level p None
    by_first None none k = (none, rw is at (level_found k))
    by_first (Some d) found k = absurd (none-some d (sym is ∙ k))

module _ (reckoned : ℕ → ℕ → ℕ → Way → ℕ) (leaf : ℕ → ℕ → ℕ) (ps : List Piece) (t : Values)
    (adds : AddsUp (reckoned t.sheet.blade) leaf t.sheet.blade ps) (right : ValuesAre reckoned ps t) where
  abbrev blade : ℕ
  blade = t.sheet.blade

  abbrev worth : Part → Way → ℕ
  worth p a = reckoned t.sheet.blade p.wide p.high a

  abbrev at_best : Part → ℕ
  at_best p = cell t.cells p.wide p.high

  abbrev pub Good : Part → Way → Type 0
  Good p a = BestFor (reckoned t.sheet.blade) leaf t.sheet.blade ps p.wide p.high a

  pub top_worth : (w h : ℕ) (a : Way) → w ≤ t.sheet.wide → h ≤ t.sheet.high → Top (reckoned t.sheet.blade) t.sheet.blade ps w h a → reckoned t.sheet.blade w h a ≡ cell t.cells w h
  top_worth w h a p q top = let m = right w h p q in omega (arith, m.worth, m.tops a top.0, top.1 m.way m.able)

  module _ (p : Part) (narrow : p.wide ≤ t.sheet.wide) (low : p.high ≤ t.sheet.high) where
    top_is : (a : Way) → can blade ps p.wide p.high a ≡ true → worth p a ≡ at_best p → Top (reckoned t.sheet.blade) blade ps p.wide p.high a
    top_is a able is = (able, λ b e. omega (arith, (right p.wide p.high narrow low).tops b e))

    -- what lies there uncut
    pub good_scrap : Lies (reckoned t.sheet.blade) leaf ps p.wide p.high None → cell t.cells p.wide p.high ≡ leaf p.wide p.high → Good p scrap
    unfolding can Thrifty
    good_scrap lies is = record { top = top_is scrap refl (omega arith); thrifty = tt }

    pub good_take : (k : ℕ) → Lies (reckoned t.sheet.blade) leaf ps p.wide p.high (Some k) → cell t.cells p.wide p.high ≡ leaf p.wide p.high → Good p (take k)
    unfolding can Thrifty
    good_take k lies is = record { top = top_is (take k) lies.0 (omega (arith, lies.1)); thrifty = omega (arith, lies.1, lies.2) }

    leaf_low : leaf p.wide p.high ≤ at_best p
    unfolding can
    leaf_low = elim (adds.comes p.wide p.high) [
      | inl e ↦ omega (arith, (right p.wide p.high narrow low).tops scrap refl)
      | inr e ↦ omega (arith, e.2, (right p.wide p.high narrow low).tops (take e.0) e.1)
    ]

    -- a part that is worth more than as it lies, and a cut of it whose two parts are worth as much
    module _ (more : cell t.cells p.wide p.high ≡ leaf p.wide p.high → ⊥) where
      above : (v : ℕ) → v ≡ at_best p → leaf p.wide p.high < v
      above v e = elim (cases_lt (leaf p.wide p.high) (at_best p)) [ inl lt ↦ omega arith | inr ge ↦ absurd (more (omega (arith, leaf_low))) ]

      pub some_part : Small leaf → (1 ≤ p.wide) × (1 ≤ p.high)
      some_part small = (wide p.wide refl, high p.high refl)
        where
          wide : (v : ℕ) → v ≡ p.wide → 1 ≤ v
          wide zero e = absurd (more (omega (arith, cell_empty t.cells p.wide p.high (inl (sym e)), small p.wide p.high, ap (λ (n : ℕ). n * p.high) (sym e), zero-mul p.high)))
          wide (suc v) e = omega arith

          high : (v : ℕ) → v ≡ p.high → 1 ≤ v
          high zero e = absurd (more (omega (arith, cell_empty t.cells p.wide p.high (inr (sym e)), small p.wide p.high, ap (λ (n : ℕ). p.wide * n) (sym e), mul-zero p.wide)))
          high (suc v) e = omega arith

      pub good_sawn : (o : Orientation) (c : Cut Part) → FoundCut t o p c → (a b : Way) → Good c.first a → Good c.second b → Good p (sawn c.orientation c.at a b)
      good_sawn o c found a b first second =
          let side = side_of o p.wide p.high in
          let cut = cut_ok_parts blade side c.at found.cuts.allowed in
          let near = with_side o p c.at in
          let far = with_side o p (side - (c.at + blade)) in
          let near_in = within_sheet t p narrow low o near c.at refl cut.proper in
          let far_in = within_sheet t p narrow low o far (side - (c.at + blade)) refl (omega (arith, cut.some, cut.fits)) in
          let l : Good near a = subst (λ (q : Part). Good q a) found.cuts.first first in
          let r : Good far b = subst (λ (q : Part). Good q b) found.cuts.second second in
          let both : at_best near + at_best far ≡ at_best p = rw (found.cuts.first, found.cuts.second) at found.sum in
          let sum : worth p (sawn o c.at a b) ≡ at_best p =
          omega (
            arith,
            sawn_adds blade (reckoned t.sheet.blade) adds.cuts o p c.at a b,
            top_worth near.wide near.high a near_in.0 near_in.1 l.top,
            top_worth far.wide far.high b far_in.0 far_in.1 r.top,
            both,
          ) in
          let good : Good p (sawn o c.at a b) =
          record {
            top = top_is (sawn o c.at a b) (sawn_from blade ps o p c.at a b cut l.top.0 r.top.0) sum;
            thrifty = thrifty_sawn (reckoned t.sheet.blade) leaf blade o p c.at a b (above _ sum) l.thrifty r.thrifty;
          } in
          subst (λ (q : Orientation). Good p (sawn q c.at a b)) (sym found.cuts.oriented) good

      -- where a cut comes to the table's number, what the table says of its parts does
      sawn_sum :
          (o : Orientation) (x : ℕ) (a b : Way) → can blade ps p.wide p.high (sawn o x a b) ≡ true → worth p (sawn o x a b) ≡ at_best p →
          at_best (with_side o p x) + at_best (with_side o p (side_of o p.wide p.high - (x + blade))) ≡ at_best p
      sawn_sum o x a b able is =
          let s = sawn_parts blade ps o p x a b able in
          let near = with_side o p x in
          let far = with_side o p (side_of o p.wide p.high - (x + blade)) in
          let near_in = within_sheet t p narrow low o near x refl s.0.proper in
          let far_in = within_sheet t p narrow low o far (side_of o p.wide p.high - (x + blade)) refl (omega (arith, s.0.some, s.0.fits)) in
          let l = right near.wide near.high near_in.0 near_in.1 in
          let r = right far.wide far.high far_in.0 far_in.1 in
          let both = (right p.wide p.high narrow low).tops (sawn o x l.way r.way) (sawn_from blade ps o p x l.way r.way s.0 l.able r.able) in
          omega (
            arith,
            sawn_adds blade (reckoned t.sheet.blade) adds.cuts o p x a b,
            sawn_adds blade (reckoned t.sheet.blade) adds.cuts o p x l.way r.way,
            l.worth,
            r.worth,
            l.tops a s.1,
            r.tops b s.2,
            both,
          )

      -- so there is such a cut
      pub some_cut : Small leaf → CutFound t Upright p None → CutFound t Level p None → ⊥
      unfolding can
      some_cut small no_upright no_level = none (right p.wide p.high narrow low).way (right p.wide p.high narrow low).able (right p.wide p.high narrow low).worth
        where
          inside : Inside t p
          inside = record { some_wide = (some_part small).0; some_high = (some_part small).1; narrow = narrow; low = low }

          none : (a : Way) → can blade ps p.wide p.high a ≡ true → worth p a ≡ at_best p → ⊥
          none scrap able is = more (omega (arith, adds.scraps p.wide p.high, leaf_low))
          none (take k) able is = more (omega (arith, adds.takes p.wide p.high k able, leaf_low))
          none (upright x a b) able is =
              no_upright inside x (cut_ok_from blade p.wide x (sawn_parts blade ps Upright p x a b able).0) (sawn_sum Upright x a b able is)
          none (level y a b) able is =
              no_level inside y (cut_ok_from blade p.high y (sawn_parts blade ps Level p y a b able).0) (sawn_sum Level y a b able is)
