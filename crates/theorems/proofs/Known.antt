-- Small sheets: no way is worth more than the squares allow. Assumes nothing.
use Rattle.std.proofs.Common.{◌≡◌, ℕ, zero, suc, ◌+◌, ◌*◌, ◌≤◌, List, refl, mul-add, arith}
use Rattle.ways.specs.Sheet.{Way, scrap, take, upright, level, cut_ok, piece_fits, worth_at, can, worth_of, Best}
use Rattle.ways.specs.declared.input.Piece.{Piece}
use Rattle.theorems.specs.Areas.{area_at, area_of}
use Rattle.theorems.specs.Rows.{three, one, TwoDoors, JustIt, AStripOff}
use Rattle.theorems.proofs.Filled.{no_more_than_there_is}

-- where c times what each piece is worth is at most d times its squares, so it is of a way
dense : (ps : List Piece) (c d : ℕ) → ((k : ℕ) → c * worth_at ps k ≤ d * area_at ps k) → (a : Way) → c * worth_of ps a ≤ d * area_of ps a
unfolding worth_of area_of
dense ps c d h scrap = omega arith
dense ps c d h (take k) = h k
dense ps c d h (upright x a b) = simp mul-add (omega (arith, dense ps c d h a, dense ps c d h b))
dense ps c d h (level y a b) = simp mul-add (omega (arith, dense ps c d h a, dense ps c d h b))

three_dense : (k : ℕ) → 30 * worth_at three k ≤ 31 * area_at three k
unfolding worth_at area_at
three_dense zero = omega arith
three_dense (suc zero) = omega arith
three_dense (suc (suc zero)) = omega arith
three_dense (suc (suc (suc k))) = omega arith

one_dense : (k : ℕ) → 1 * worth_at one k ≤ 1 * area_at one k
unfolding worth_at area_at
one_dense zero = omega arith
one_dense (suc k) = omega arith

-- pieces that are worth 12 each are worth some times 12 together
twelves : (a : Way) → (n : ℕ) × (worth_of one a ≡ 12 * n)
unfolding worth_of worth_at
twelves scrap = (0, refl)
twelves (take zero) = (1, refl)
twelves (take (suc k)) = (0, refl)
twelves (upright x a b) = let l = twelves a in let r = twelves b in (l.0 + r.0, omega arith)
twelves (level y a b) = let l = twelves a in let r = twelves b in (l.0 + r.0, omega arith)

pub two_doors : TwoDoors
unfolding Best can cut_ok piece_fits worth_of worth_at
two_doors = ((refl, λ b e. omega (arith, dense three 30 31 three_dense b, no_more_than_there_is 0 three 10 6 b e)), refl)

pub just_it : JustIt
unfolding Best can cut_ok piece_fits worth_of worth_at
just_it = ((refl, λ b e. omega (arith, dense one 1 1 one_dense b, no_more_than_there_is 0 one 4 3 b e)), refl)

pub a_strip_off : AStripOff
unfolding Best can cut_ok piece_fits worth_of worth_at
a_strip_off = ((refl, λ b e. omega (arith, (twelves b).1, dense one 1 1 one_dense b, no_more_than_there_is 0 one 5 3 b e)), refl)
