-- What the writer leaves, read back. Assumes nothing.
use Rattle.std.proofs.Common.{◌≡◌, ℕ, ◌-◌, ◌*◌, ◌≤◌, true, List, ◌++◌, length, get_or, take, drop, sym, ap, ◌∙◌, subst, arith}
use Rattle.std.proofs.lemmas.List.{length-append, length-drop, get_or-append_right, get_or-drop, take_at}
use Rattle.ways.specs.Nodes.{node_ok, size, way_at}
use Rattle.ways.specs.Sheet.{Way}
use Rattle.nodes.specs.Written.{encode, Leaves, Written}
use Rattle.nodes.proofs.Lent.{length_encode}
use Rattle.nodes.proofs.ReadBack.{size_some, read_back, all_later}

pub leaves : (Good : Way → Type 0) (spare n : ℕ) (room room₁ : List ℕ) → Written Good spare 0 room n room₁ → 4 * n ≤ length room → Leaves Good room n room₁
leaves Good spare n room room₁ k within =
    let a : Way = k.way in
    let es : List ℕ = encode 0 a in
    let rest : List ℕ = drop (4 * n) room in
    let is : room₁ ≡ es ++ rest = k.holds in
    let counted : n ≡ size a = k.nodes in
    let long : length es ≡ 4 * n = length_encode 0 a ∙ (omega arith) in
    let back : way_at room₁ n 0 ≡ a = ap (λ (m : ℕ). way_at room₁ m 0) counted ∙ read_back a room₁ rest is in
    record {
      some = omega (arith, size_some a);
      within = within;
      as_long = ap length is ∙ (omega (arith, length-append es rest, length-drop (4 * n) room));
      past = λ i le.
          ap (λ (z : List ℕ). get_or z i 0) is ∙ get_or-append_right es rest (4 * n) i 0 long le ∙ get_or-drop (4 * n) room (i - 4 * n) 0 ∙ ap (λ (j : ℕ). get_or room j 0) (omega arith);
      later = λ i lt. subst (λ (m : ℕ). node_ok room₁ m i ≡ true) (sym counted) (all_later a room₁ rest is i (omega arith));
      nodes = ap size back ∙ sym counted;
      numbers = ap (take (4 * n)) is ∙ take_at es rest (4 * n) long ∙ ap (encode 0) (sym back);
      wanted = subst Good (sym back) k.good;
    }

-- what is left is as it is wanted in whatever words follow from these
pub leaves_so : (P Q : Way → Type 0) (n : ℕ) (room room₁ : List ℕ) → ((a : Way) → P a → Q a) → Leaves P room n room₁ → Leaves Q room n room₁
leaves_so P Q n room room₁ so k =
    record {
      some = k.some;
      within = k.within;
      as_long = k.as_long;
      past = k.past;
      later = k.later;
      nodes = k.nodes;
      numbers = k.numbers;
      wanted = so _ k.wanted;
    }
