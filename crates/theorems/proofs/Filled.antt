-- Pieces fill no more than the sheet. Assumes nothing.
use Rattle.std.proofs.Common.{◌≡◌, ℕ, zero, suc, ◌*◌, ◌≤◌, true, eqb, List, [], ◌∷◌, refl, arith}
use Rattle.std.proofs.lemmas.Bool.{false≢true, and_parts, eqb-true}
use Rattle.ways.specs.Adding.{Adds}
use Rattle.ways.specs.Sheet.{piece_fits}
use Rattle.ways.specs.declared.input.Piece.{Piece}
use Rattle.ways.proofs.Within.{within, squares_split}
use Rattle.theorems.specs.Areas.{area_at, area_of}
use Rattle.theorems.specs.Statements.{NoMoreThanThereIs}

-- a piece that fits a part is as large as the part
pub fits_area : (ps : List Piece) (k w h : ℕ) → piece_fits ps k w h ≡ true → area_at ps k ≡ w * h
unfolding piece_fits area_at
fits_area [] k w h e = absurd (false≢true e)
fits_area (p ∷ ps) zero w h e =
    let q = and_parts (eqb p.wide w) (eqb p.high h) e in rw (eqb-true p.wide w q.0, eqb-true p.high h q.1) refl
fits_area (p ∷ ps) (suc k) w h e = fits_area ps k w h e

-- so it fills no more than the part
fills : (ps : List Piece) (k w h : ℕ) → piece_fits ps k w h ≡ true → area_at ps k ≤ w * h
fills ps k w h e = omega (arith, fits_area ps k w h e)

areas_add : (blade : ℕ) (ps : List Piece) → Adds blade (λ w h. area_of ps)
unfolding area_of
areas_add blade ps = record { uprights = λ w h x a b. refl; levels = λ w h y a b. refl }

pub no_more_than_there_is : NoMoreThanThereIs
unfolding area_of
no_more_than_there_is blade ps w h a e =
    let filled = within blade ps (λ w h. area_of ps) (λ w h. 1 * (w * h)) (areas_add blade ps) (squares_split blade 1) (λ w h. omega arith)
    (λ w h k e. omega (arith, fills ps k w h e)) w h a e in
    omega arith
