-- Pieces keep the laws of what can lie uncut: lemmas, which nobody has to read to believe a contract. Assumes nothing.
use Rattle.std.specs.Prelude.{◌≡◌, ℕ, zero, suc, ◌*◌, ◌≤◌, true, false, ◌&&◌, ◌⊎◌, List, [], ◌∷◌, ◌==◌, refl}
use Rattle.std.proofs.Common.{inl, inr, mul-le-mul, arith}
use Rattle.std.proofs.lemmas.Bool.{cases_lt, cases_Bool, cond-true, cond-false, false≢true}
use Rattle.ways.specs.declared.input.Piece.{Piece}
use Rattle.ways.specs.Input.{pieces_ok}
use Rattle.ways.specs.Sheet.{piece_fits, worth_at, worth_of}
use Rattle.ways.proofs.Fits.{fits_ok, worths_add}
use Rattle.worths.specs.Pieces.{fit_worth, best_fit}
use Rattle.worths.specs.Reckoned.{AddsUp}

pub fit_just : (p : Piece) (w h : ℕ) → (p.wide == w && p.high == h) ≡ true → fit_worth p w h ≡ p.worth
unfolding fit_worth
fit_just p w h e = cond-true _ p.worth 0 e

pub fit_not : (p : Piece) (w h : ℕ) → (p.wide == w && p.high == h) ≡ false → fit_worth p w h ≡ 0
unfolding fit_worth
fit_not p w h e = cond-false _ p.worth 0 e

-- no piece that fits is worth more
best_covers : (ps : List Piece) (w h k : ℕ) → piece_fits ps k w h ≡ true → worth_at ps k ≤ best_fit ps w h
unfolding piece_fits worth_at best_fit
best_covers [] w h k e = absurd (false≢true e)
best_covers (p ∷ ps) w h zero e = omega (arith, fit_just p w h e)
best_covers (p ∷ ps) w h (suc k) e = omega (arith, best_covers ps w h k e)

-- and one that fits is worth as much, or none is worth anything
pub best_comes : (ps : List Piece) (w h : ℕ) → (0 ≡ best_fit ps w h) ⊎ ((k : ℕ) × (piece_fits ps k w h ≡ true) × (worth_at ps k ≡ best_fit ps w h))
unfolding piece_fits worth_at best_fit
best_comes [] w h = inl refl
best_comes (p ∷ ps) w h =
    elim (cases_lt (best_fit ps w h) (fit_worth p w h)) [
      | inl more ↦
          elim (cases_Bool (p.wide == w && p.high == h)) [
            | inl e ↦ inr (zero, e, omega (arith, fit_just p w h e))
            | inr e ↦ inl (omega (arith, fit_not p w h e))
          ]
      | inr less ↦ elim (best_comes ps w h) [ inl e ↦ inl (omega arith) | inr q ↦ inr (suc q.0, q.1, omega (arith, q.2)) ]
    ]

pub pieces_add_up : (blade : ℕ) (ps : List Piece) → AddsUp (λ w h. worth_of ps) (best_fit ps) blade ps
unfolding worth_of
pieces_add_up blade ps =
    record {
      cuts = worths_add blade ps;
      scraps = λ w h. omega arith;
      takes = best_covers ps;
      comes = best_comes ps;
    }

pub best_small : (ps : List Piece) → pieces_ok ps ≡ true → (w h : ℕ) → best_fit ps w h ≤ 100000 * (w * h)
best_small ps ok w h =
    elim (best_comes ps w h) [
      | inl e ↦ omega arith
      | inr q ↦ let o = fits_ok ps q.0 w h ok q.1 in let one : 1 * 1 ≤ w * h = mul-le-mul o.0 o.1 in omega (arith, q.2)
    ]
