-- How many nodes a way can have. Assumes nothing.
use Rattle.std.proofs.Common.{◌≡◌, ℕ, suc, ◌+◌, ◌-◌, ◌*◌, ◌≤◌, max, true, List, mul-le-mul_right, add-mul, mul-le-mul, mul-le-mul_left, mul-add, arith}
use Rattle.ways.specs.Adding.{Adds}
use Rattle.ways.specs.Sheet.{Way, can}
use Rattle.ways.specs.Nodes.{size}
use Rattle.ways.specs.declared.input.Piece.{Piece}
use Rattle.ways.proofs.Within.{Splits, within}

-- the squares of a sheet, where an empty side counts as one: an empty part has its node too
abbrev pub squares : (w h : ℕ) → ℕ
squares w h = max 1 w * max 1 h

pub one_square : (w h : ℕ) → 1 ≤ squares w h
one_square w h = mul-le-mul {n₁ = 1} {m₁ = 1} {n₂ = max 1 w} {m₂ = max 1 h} (omega arith) (omega arith)

-- twice as many are split
pub room_splits : (blade : ℕ) → Splits blade (λ w h. 2 * squares w h)
room_splits blade =
    record {
      uprights = λ w h x c.
          let both : squares x h + squares (w - (x + blade)) h ≤ squares w h = rw (← add-mul) (mul-le-mul_right (max 1 h) (omega (arith, c.some, c.fits, c.proper))) in
          omega arith;
      levels = λ w h y c.
          let both : squares w y + squares w (h - (y + blade)) ≤ squares w h = rw (← mul-add) (mul-le-mul_left (max 1 w) (omega (arith, c.some, c.fits, c.proper))) in
          omega arith;
    }

-- one more than the nodes of a cut is one more than those of each part together
nodes_add : (blade : ℕ) → Adds blade (λ w h a. suc (size a))
unfolding size
nodes_add blade = record { uprights = λ w h x a b. omega arith; levels = λ w h y a b. omega arith }

pub few : (blade : ℕ) (ps : List Piece) (w h : ℕ) (a : Way) → can blade ps w h a ≡ true → suc (size a) ≤ 2 * squares w h
unfolding size
few blade ps =
    within blade ps (λ w h a. suc (size a)) (λ w h. 2 * squares w h) (nodes_add blade) (room_splits blade) (λ w h. omega (arith, one_square w h))
    (λ w h k e. omega (arith, one_square w h))
