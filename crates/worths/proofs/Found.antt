-- A cut that was looked for, as the table says it. Assumes nothing.
use Rattle.std.proofs.Common.{◌≡◌, ℕ, ◌+◌, ◌≤◌, ◌&&◌, leb, Some, None, Option, MatchOption, false, subst, sym, ◌∙◌}
use Rattle.std.proofs.lemmas.Bool.{and_parts, false≢true, leb-true}
use Rattle.std.proofs.lemmas.Option.{cond_some, none-some}
use Rattle.ways.proofs.Cuts.{cut_ok_parts}
use Rattle.ways.specs.Parts.{side_of, CutsAt}
use Rattle.ways.specs.Sheet.{cut_ok}
use Rattle.ways.specs.declared.nodes.Cut.{Cut}
use Rattle.ways.specs.declared.parts.Orientation.{Orientation}
use Rattle.ways.specs.declared.parts.Orientation.TheVariants.{Upright, Level}
use Rattle.ways.specs.declared.parts.Part.{Part}
use Rattle.worths.specs.Cuts.{part_of}
use Rattle.worths.specs.Found.{Reaching, CutFound}
use Rattle.worths.specs.Table.{cell, value_at, HasPlace}
use Rattle.worths.specs.declared.Values.{Values}
use Rattle.worths.proofs.Says.{value_there}

-- so what is said is what stands in the table for a part of the sheet
pub value_said : (t : Values) (w h v : ℕ) → Some v ≡ value_at t w h → (w ≤ t.sheet.wide) × (h ≤ t.sheet.high) × (v ≡ cell t.cells w h)
unfolding value_at
value_said t w h v e =
    let said = cond_some (leb w t.sheet.wide && leb h t.sheet.high) (cell t.cells w h) v (sym e) in
    let both = and_parts (leb w t.sheet.wide) (leb h t.sheet.high) said.0 in
    (leb-true w t.sheet.wide both.0, leb-true h t.sheet.high both.1, sym said.1)

pub value_missing : (t : Values) (w h : ℕ) → w ≤ t.sheet.wide → h ≤ t.sheet.high → None ≡ value_at t w h → ⊥
value_missing t w h p q e = none-some _ (e ∙ value_there t w h p q)

side_low : (o : Orientation) (p : Part) → HasPlace p → side_of o p.wide p.high ≤ 60
side_low Upright p place = place.1
side_low Level p place = place.3

module _ (t : Values) (o : Orientation) (p : Part) where
  -- something is said of a part of the sheet
  pub cut_beyond : None ≡ value_at t p.wide p.high → CutFound t o p None
  cut_beyond e inside x good sum = value_missing t p.wide p.high inside.narrow inside.low e

  -- what is found at the place of a part
  module _ (q : Part) (same : q ≡ p) (place : HasPlace q) (v : ℕ) where
    abbrev pub Reached : Option ℕ → Type 0
    Reached r = Reaching (part_of o t.cells q) t.sheet.blade (side_of o q.wide q.high) v r

    -- the cut is within its side
    pub cut_within : (x : ℕ) → Reached (Some x) → (x + t.sheet.blade ≤ side_of o p.wide p.high) × (side_of o p.wide p.high ≤ 60)
    cut_within x found = (rw (← same) (cut_ok_parts t.sheet.blade (side_of o q.wide q.high) x found.0).fits, rw (← same) (side_low o q place))

    module _ (said : Some v ≡ value_at t p.wide p.high) where
      pub cut_missing : Reached None → CutFound t o p None
      cut_missing none inside x good sum = (rw same at none) x good (sum ∙ sym (value_said t p.wide p.high v said).2)

      pub cut_found :
          (x : ℕ) → Reached (Some x) → (r : Option (Cut Part)) → MatchOption r (cut_ok t.sheet.blade (side_of o p.wide p.high) x ≡ false) (CutsAt t.sheet.blade p o x) → CutFound t o p r
      cut_found x found None k = absurd (false≢true (sym k ∙ (rw same at found).0))
      cut_found x found (Some c) k =
          let inside = value_said t p.wide p.high v said in
          let there = rw same at place in
          let reached = rw same at found in
          record {
            inside = record { some_wide = there.0; some_high = there.2; narrow = inside.0; low = inside.1 };
            cuts = subst (λ y. CutsAt t.sheet.blade p o y c) (sym k.at) k;
            sum = rw (k.first, k.second) (reached.1 ∙ inside.2);
          }
