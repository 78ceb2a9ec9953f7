-- The piece of a number, and that no way is worth more than 100,000 for each square of its sheet. Assumes nothing.
use Rattle.std.proofs.Common.{◌≡◌, ℕ, zero, suc, ◌*◌, ◌<◌, ◌≤◌, true, false, ◌&&◌, eqb, List, [], ◌∷◌, length, get_or, refl, mul-le-mul, arith}
use Rattle.std.proofs.lemmas.Bool.{false≢true, and_parts, eqb-true}
use Rattle.ways.specs.Adding.{Adds}
use Rattle.ways.specs.Sheet.{Way, piece_fits, worth_at, can, worth_of}
use Rattle.ways.specs.declared.input.Piece.{Piece}
use Rattle.ways.specs.Input.{piece_ok, pieces_ok}
use Rattle.ways.proofs.Allowed.{piece_ok_parts}
use Rattle.ways.proofs.Within.{within, squares_split}

-- what a read past the end would give
abbrev pub unused : Piece
unused = record { wide = 0; high = 0; worth = 0 }

pub fits_at : (ps : List Piece) (k w h : ℕ) → k < length ps → piece_fits ps k w h ≡ (eqb (get_or ps k unused).wide w && eqb (get_or ps k unused).high h)
unfolding piece_fits
fits_at [] k w h l = absurd (omega arith)
fits_at (p ∷ ps) zero w h l = refl
fits_at (p ∷ ps) (suc k) w h l = fits_at ps k w h (omega arith)

pub worth_here : (ps : List Piece) (k : ℕ) → k < length ps → worth_at ps k ≡ (get_or ps k unused).worth
unfolding worth_at
worth_here [] k l = absurd (omega arith)
worth_here (p ∷ ps) zero l = refl
worth_here (p ∷ ps) (suc k) l = worth_here ps k (omega arith)

pub fits_past : (ps : List Piece) (k w h : ℕ) → length ps ≤ k → piece_fits ps k w h ≡ false
unfolding piece_fits
fits_past [] k w h l = refl
fits_past (p ∷ ps) zero w h l = absurd (omega arith)
fits_past (p ∷ ps) (suc k) w h l = fits_past ps k w h (omega arith)

-- a piece that fits a part is one of those that are allowed
pub fits_ok : (ps : List Piece) (k w h : ℕ) → pieces_ok ps ≡ true → piece_fits ps k w h ≡ true → (1 ≤ w) × (1 ≤ h) × (worth_at ps k ≤ 100000)
unfolding piece_fits worth_at pieces_ok
fits_ok [] k w h ok e = absurd (false≢true e)
fits_ok (p ∷ ps) zero w h ok e =
    let q = and_parts (eqb p.wide w) (eqb p.high h) e in
    let a = eqb-true p.wide w q.0 in
    let b = eqb-true p.high h q.1 in
    let o = piece_ok_parts p (and_parts (piece_ok p) (pieces_ok ps) ok).0 in
    (omega arith, omega arith, o.2)
fits_ok (p ∷ ps) (suc k) w h ok e = fits_ok ps k w h (and_parts (piece_ok p) (pieces_ok ps) ok).1 e

pub worths_add : (blade : ℕ) (ps : List Piece) → Adds blade (λ w h. worth_of ps)
unfolding worth_of
worths_add blade ps = record { uprights = λ w h x a b. refl; levels = λ w h y a b. refl }

pub worth_bound : (blade : ℕ) (ps : List Piece) → pieces_ok ps ≡ true → (w h : ℕ) (a : Way) → can blade ps w h a ≡ true → worth_of ps a ≤ 100000 * (w * h)
unfolding worth_of
worth_bound blade ps ok =
    within blade ps (λ w h. worth_of ps) (λ w h. 100000 * (w * h)) (worths_add blade ps) (squares_split blade 100000) (λ w h. omega arith)
    (λ w h k e. let o = fits_ok ps k w h ok e in let one : 1 * 1 ≤ w * h = mul-le-mul o.0 o.1 in omega (arith, o.2))
