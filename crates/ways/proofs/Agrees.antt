-- Nodes that each name later ones among the first n are judged by the way that they say. Assumes nothing.
use Rattle.std.proofs.Common.{◌≡◌, ℕ, zero, suc, ◌+◌, ◌/◌, ◌<◌, ◌≤◌, Bool, true, ◌&&◌, List, length, Some, None, Option, refl, ap, ◌∙◌, arith}
use Rattle.std.proofs.lemmas.Bool.{false≢true}
use Rattle.std.proofs.lemmas.Bool.Decides.{nat_tests}
use Rattle.ways.specs.declared.input.Piece.{Piece}
use Rattle.ways.specs.declared.nodes.Node.{Node}
use Rattle.ways.specs.declared.nodes.Node.TheVariants.{Scrap, Take, Saw}
use Rattle.ways.specs.Parts.{sawn}
use Rattle.ways.specs.Sheet.{Way, can, worth_of}
use Rattle.ways.specs.Nodes.{all_later, node_at, node_ok, way_at, way_from}
use Rattle.ways.specs.Judged.{both_parts, sound, worth_from, judged}
use Rattle.ways.proofs.Named.{both_later}

-- what holds of the nodes that node i names holds of what it says
module _ (n i : ℕ) where
  sound_node :
      (m : ℕ) → n ≤ m → (o : Option (Node ℕ)) → all_later n i o ≡ true → (f : ℕ → Bool) → ((j : ℕ) → i < j → j < n → f j ≡ true) →
      (all_later m i o && both_parts f o) ≡ true
  unfolding both_parts
  sound_node m le None e f h = absurd (false≢true e)
  sound_node m le (Some Scrap) e f h = refl
  sound_node m le (Some (Take k)) e f h = refl
  sound_node m le (Some (Saw c)) e f h =
      let l = both_later n i c.first c.second e in
      let fa : f c.first ≡ true = h c.first l.first_after l.first_below in
      let fb : f c.second ≡ true = h c.second l.second_after l.second_below in rw (fa, fb) (grind (arith, nat_tests))

  same_node : (o : Option (Node ℕ)) → all_later n i o ≡ true → (f g : ℕ → Way) → ((j : ℕ) → i < j → j < n → f j ≡ g j) → way_from f o ≡ way_from g o
  unfolding way_from
  same_node None e f g h = refl
  same_node (Some Scrap) e f g h = refl
  same_node (Some (Take k)) e f g h = refl
  same_node (Some (Saw c)) e f g h =
      let l = both_later n i c.first c.second e in
      ap (λ z. sawn c.orientation c.at z (f c.second)) (h c.first l.first_after l.first_below)
      ∙ ap (λ z. sawn c.orientation c.at (g c.first) z) (h c.second l.second_after l.second_below)

module _ (xs : List ℕ) (n : ℕ) (ok : (i : ℕ) → i < n → node_ok xs n i ≡ true) where
  all_sound : (m l i : ℕ) → n ≤ m → i < n → n ≤ l + i → sound xs m l i ≡ true
  unfolding sound node_ok
  all_sound m zero i le lt deep = absurd (omega arith)
  all_sound m (suc l) i le lt deep = sound_node n i m le (node_at xs i) (ok i lt) (sound xs m l) (λ j a b. all_sound m l j le b (omega arith))

  -- more levels than there are nodes say nothing more
  same_way : (l m i : ℕ) → i < n → n ≤ l + i → n ≤ m + i → way_at xs l i ≡ way_at xs m i
  unfolding way_at node_ok
  same_way zero m i lt le le₁ = absurd (omega arith)
  same_way (suc l) zero i lt le le₁ = absurd (omega arith)
  same_way (suc l) (suc m) i lt le le₁ = same_node n i (node_at xs i) (ok i lt) (way_at xs l) (way_at xs m) (λ j a b. same_way l m j b (omega arith) (omega arith))

  pub agrees :
      (blade : ℕ) (ps : List Piece) (w h v : ℕ) → 1 ≤ n → n ≤ length xs / 4 → can blade ps w h (way_at xs n 0) ≡ true → worth_of ps (way_at xs n 0) ≡ v →
      judged blade ps w h xs ≡ Some v
  unfolding judged worth_from
  agrees blade ps w h v some le able is =
      let s : sound xs (length xs / 4) (length xs / 4) 0 ≡ true = all_sound (length xs / 4) (length xs / 4) 0 le (omega arith) (omega arith) in
      let e : way_at xs (length xs / 4) 0 ≡ way_at xs n 0 = same_way (length xs / 4) n 0 (omega arith) (omega arith) (omega arith) in
      rw (e, s, able, is) refl
