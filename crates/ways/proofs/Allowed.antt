-- Pieces that are as they may be, one more of them. Assumes nothing.
use Rattle.std.proofs.Common.{◌≡◌, ℕ, zero, suc, ◌+◌, ◌<◌, ◌≤◌, true, List, [], ◌∷◌, length, take, set, refl, add-one, arith}
use Rattle.std.proofs.lemmas.Bool.{and_parts, and_from}
use Rattle.std.proofs.lemmas.Bool.Decides.{nat_tests}
use Rattle.ways.specs.declared.input.Piece.{Piece}
use Rattle.ways.specs.Input.{piece_ok, pieces_ok}

pub piece_ok_from : (p : Piece) → 1 ≤ p.wide → 1 ≤ p.high → p.worth ≤ 100000 → piece_ok p ≡ true
unfolding piece_ok
piece_ok_from p a b c = grind (arith, nat_tests)

pub piece_ok_parts : (p : Piece) → piece_ok p ≡ true → (1 ≤ p.wide) × (1 ≤ p.high) × (p.worth ≤ 100000)
unfolding piece_ok
piece_ok_parts p e = (grind (arith, nat_tests), grind (arith, nat_tests), grind (arith, nat_tests))

ok_push : (xs : List Piece) (n : ℕ) (p : Piece) → n < length xs → pieces_ok (take n xs) ≡ true → piece_ok p ≡ true → pieces_ok (take (suc n) (set xs n p)) ≡ true
unfolding pieces_ok
ok_push [] n p lt e h = absurd (omega arith)
ok_push (x ∷ xs) zero p lt e h = and_from _ _ h refl
ok_push (x ∷ xs) (suc n) p lt e h =
    let q = and_parts (piece_ok x) (pieces_ok (take n xs)) e in and_from _ _ q.0 (ok_push xs n p (omega arith) q.1 h)

pub pieces_ok_push : (xs : List Piece) (n : ℕ) (p : Piece) → n < length xs → pieces_ok (take n xs) ≡ true → piece_ok p ≡ true → pieces_ok (take (n + 1) (set xs n p)) ≡ true
pieces_ok_push xs n p lt e h = rw add-one (ok_push xs n p lt e h)
