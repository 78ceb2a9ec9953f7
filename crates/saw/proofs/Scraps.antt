-- A sheet that is scrap as a whole, worth nothing; and what is left, judged. Assumes nothing.
use Rattle.std.proofs.Common.{◌≡◌, ℕ, ◌*◌, ◌≤◌, List, Some, refl, mul-le-mul, arith}
use Rattle.nodes.specs.Written.{Leaves}
use Rattle.ways.proofs.Agrees.{agrees}
use Rattle.ways.specs.Judged.{judged}
use Rattle.ways.specs.Sheet.{Way, scrap, can, worth_of}
use Rattle.ways.specs.declared.checked.Pieces.{Pieces}
use Rattle.ways.specs.declared.checked.Sheet.{Sheet}
use Rattle.ways.specs.declared.input.Piece.{Piece}
use Rattle.saw.specs.Entry.{Accepted, WayOf}

pub room_for_one : (w h b : ℕ) (xs : List ℕ) (n : ℕ) (r : Sheet × Pieces) → Accepted w h b xs n r → 4 ≤ n
room_for_one w h b xs n r a =
    let ok = r.0.ok in
    let wide : 1 ≤ w = omega (arith, ok.0, a.as_wide) in
    let high : 1 ≤ h = omega (arith, ok.2, a.as_high) in
    let one : 1 * 1 ≤ w * h = mul-le-mul wide high in omega (arith, a.enough)

pub scrap_is_a_way : (blade : ℕ) (ps : List Piece) (w h : ℕ) (a : Way) → a ≡ scrap → WayOf blade ps w h 0 a
unfolding can worth_of
scrap_is_a_way blade ps w h a is = rw is (record { able = refl; worth = refl })

-- what is left is judged as it was answered
pub left_judged :
    (blade : ℕ) (ps : List Piece) (w h v : ℕ) (room : List ℕ) (n : ℕ) (room₁ : List ℕ) → Leaves (WayOf blade ps w h v) room n room₁ → judged blade ps w h room₁ ≡ Some v
left_judged blade ps w h v room n room₁ k = agrees room₁ n k.later blade ps w h v k.some (omega (arith, k.within, k.as_long)) k.wanted.able k.wanted.worth
