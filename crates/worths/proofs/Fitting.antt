-- The pieces that fit a part: what the best of them is worth, and the first that is worth so much. Assumes nothing.
use Rattle.std.proofs.Common.{◌≡◌, ℕ, ◌≤◌, max, Bool, ◌&&◌, List, [], ◌∷◌, length, map, Some, None, Option, sym, refl, ◌∙◌, inl, inr, arith}
use Rattle.std.specs.List.{filter, fold, reduce, position, position_or_len}
use Rattle.std.specs.Option.{unwrap_or}
use Rattle.std.specs.Prelude.{◌==◌}
use Rattle.std.proofs.lemmas.Bool.{cases_lt, cases_Bool, and_parts, and_from, eqb-true, eq-eqb, false≢true}
use Rattle.std.proofs.lemmas.Grind.{common_steps}
use Rattle.std.proofs.lemmas.List.Quantifiers.{position-Some}
use Rattle.std.proofs.lemmas.List.Sums.{fails_before_first}
use Rattle.ways.proofs.Fits.{unused, fits_at, fits_past, worth_here}
use Rattle.ways.specs.Sheet.{worth_of}
use Rattle.ways.specs.declared.input.Piece.{Piece}
use Rattle.worths.specs.AsItLies.{Lies, Fitting}
use Rattle.worths.specs.Laws.{best_comes, fit_just, fit_not}
use Rattle.worths.specs.Pieces.{best_fit}

-- a piece fits a part just so
abbrev pub fits : (w h : ℕ) → Piece → Bool
fits w h p = p.wide == w && p.high == h

-- what the pieces are worth that fit
abbrev pub fit_worths : List Piece → (w h : ℕ) → List ℕ
fit_worths ps w h = map (λ p. p.worth) (filter (fits w h) ps)

folded : (ps : List Piece) (w h r : ℕ) → fold max r (fit_worths ps w h) ≡ max r (best_fit ps w h)
unfolding best_fit
folded [] w h r = omega arith
folded (p ∷ ps) w h r =
    elim (cases_Bool (p.wide == w && p.high == h)) [
      | inl e ↦ rw (fit_just p w h e, e) (omega (arith, folded ps w h (max r p.worth)))
      | inr e ↦ rw (fit_not p w h e, e) (omega (arith, folded ps w h r))
    ]

pub best_of_fitting : (ps : List Piece) (w h : ℕ) → unwrap_or (reduce max (fit_worths ps w h)) 0 ≡ best_fit ps w h
unfolding best_fit
best_of_fitting [] w h = refl
best_of_fitting (p ∷ ps) w h =
    elim (cases_Bool (p.wide == w && p.high == h)) [
      | inl e ↦ rw (fit_just p w h e, e) (folded ps w h p.worth)
      | inr e ↦ rw (fit_not p w h e, e) (omega (arith, best_of_fitting ps w h))
    ]

-- a piece fits and is worth v
abbrev pub wanted : (w h v : ℕ) → Piece → Bool
wanted w h v p = fits w h p && p.worth == v

-- the first such piece
module _ (ps : List Piece) (w h v : ℕ) (best : v ≡ best_fit ps w h) (some : v ≡ 0 → ⊥) where
  fitting_first : (k : ℕ) → position (wanted w h v) ps ≡ Some k → Fitting ps w h (Some k)
  fitting_first k e =
      let first = position-Some (wanted w h v) ps k unused e in
      let both = and_parts _ _ first.1 in
      (fits_at ps k w h first.0 ∙ both.0, worth_here ps k first.0 ∙ eqb-true _ _ both.1 ∙ best, omega arith)

  fitting_none : position (wanted w h v) ps ≡ None → ⊥
  fitting_none e =
      let past : length ps ≤ position_or_len (wanted w h v) ps = grind (arith, common_steps) in
      elim (best_comes ps w h) [
        | inl none ↦ some (best ∙ sym none)
        | inr q ↦
            elim (cases_lt q.0 (length ps)) [
              | inl lt ↦
                  let other = fails_before_first (wanted w h v) ps q.0 unused (omega arith) in
                  let here = and_from _ _ (sym (fits_at ps q.0 w h lt) ∙ q.1) (eq-eqb _ v (sym (worth_here ps q.0 lt) ∙ q.2 ∙ sym best)) in
                  false≢true (sym other ∙ here)
              | inr beyond ↦ false≢true (sym (fits_past ps q.0 w h beyond) ∙ q.1)
            ]
      ]

  pub fitting : (r : Option ℕ) → r ≡ position (wanted w h v) ps → Fitting ps w h r
  fitting (Some k) e = fitting_first k (sym e)
  fitting None e = absurd (fitting_none (sym e))

pub lies_fitting : (ps qs : List Piece) (w h : ℕ) (r : Option ℕ) → ps ≡ qs → Fitting ps w h r → Lies (λ w h. worth_of qs) (best_fit qs) qs w h r
unfolding worth_of
lies_fitting ps qs w h (Some k) same fitting = rw same at fitting
lies_fitting ps qs w h None same fitting = rw same at fitting
