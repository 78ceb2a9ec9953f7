-- Eight numbers for each square of a sheet are enough for the nodes of its way, and fewer are refused. Assumes nothing.
use Rattle.std.proofs.Common.{◌≡◌, ℕ, ◌+◌, ◌-◌, ◌*◌, ◌<◌, ◌≤◌, max, Some, None, refl, mul-le-mul, arith}
use Rattle.std.proofs.lemmas.Bool.{le-leb, lt-leb}
use Rattle.ways.specs.Refusals.{room_fault}
use Rattle.ways.specs.declared.refusals.Refusal.TheVariants.{Room}
use Rattle.ways.specs.Parts.{side_of, with_side}
use Rattle.ways.specs.declared.parts.Orientation.{Orientation}
use Rattle.ways.specs.declared.parts.Part.{Part}
use Rattle.ways.proofs.Cuts.{Cut}
use Rattle.ways.proofs.Few.{one_square, room_splits}
use Rattle.ways.proofs.Within.{sawn_splits}
use Rattle.best.specs.Choosing.{spare_nodes}

-- the nodes of both parts of a cut have room besides its own
pub spare_sawn :
    (blade : ℕ) (o : Orientation) (p q r : Part) (x : ℕ) → Cut blade (side_of o p.wide p.high) x → q ≡ with_side o p x → r ≡ with_side o p (side_of o p.wide p.high - (x + blade)) →
    2 + (spare_nodes q.wide q.high + spare_nodes r.wide r.high) ≤ spare_nodes p.wide p.high
unfolding spare_nodes
spare_sawn blade o p q r x c near far =
    let first = with_side o p x in
    let second = with_side o p (side_of o p.wide p.high - (x + blade)) in
    rw (near, far) (omega (arith, sawn_splits blade _ (room_splits blade) o p x c, one_square first.wide first.high, one_square second.wide second.high))

module _ (w h : ℕ) (some_wide : 1 ≤ w) (some_high : 1 ≤ h) where
  spare_squares : 2 + spare_nodes w h ≡ 2 * (w * h)
  unfolding spare_nodes
  spare_squares =
      let wide : max 1 w ≡ w = omega arith in
      let high : max 1 h ≡ h = omega arith in
      rw (wide, high) (let one : 1 * 1 ≤ w * h = mul-le-mul some_wide some_high in omega arith)

  pub room_enough : (n : ℕ) → 8 * (w * h) ≤ n → 4 * (1 + spare_nodes w h) ≤ n
  room_enough n le = omega (arith, spare_squares)

  pub numbers_enough : w ≤ 60 → h ≤ 60 → spare_nodes w h < 65536
  numbers_enough p q = let squares : w * h ≤ 60 * 60 = mul-le-mul p q in omega (arith, spare_squares)

-- what a room is refused for
pub room_short : (w h n : ℕ) → n < 8 * (w * h) → room_fault w h n ≡ Some (Room n)
unfolding room_fault
room_short w h n lt = rw (lt-leb (8 * (w * h)) n lt) refl

pub room_long : (w h n : ℕ) → 8 * (w * h) ≤ n → room_fault w h n ≡ None
unfolding room_fault
room_long w h n le = rw (le-leb (8 * (w * h)) n le) refl
