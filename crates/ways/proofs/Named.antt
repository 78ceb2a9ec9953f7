-- What is known of a node that is as it should be, and of those that it names. Assumes nothing.
use Rattle.std.proofs.Common.{◌≡◌, ℕ, ◌<◌, true, ◌&&◌, List, Some, None, sym, ap, ◌∙◌, arith}
use Rattle.std.proofs.lemmas.Bool.{false≢true}
use Rattle.std.proofs.lemmas.Bool.Decides.{nat_tests}
use Rattle.ways.specs.declared.nodes.Cut.{Cut}
use Rattle.ways.specs.declared.nodes.Node.{Node}
use Rattle.ways.specs.declared.nodes.Node.TheVariants.{Saw}
use Rattle.ways.specs.Nodes.{comes_later, all_later, node_at, node_ok}

-- both nodes that node i of n names come after it, among them
pub record BothLater (n i a b : ℕ) : Type 0 where
  pub first_after : i < a
  pub first_below : a < n
  pub second_after : i < b
  pub second_below : b < n

pub both_later : (n i a b : ℕ) → (comes_later n i a && comes_later n i b) ≡ true → BothLater n i a b
both_later n i a b e = record { first_after = grind (arith, nat_tests); first_below = grind (arith, nat_tests); second_after = grind (arith, nat_tests); second_below = grind (arith, nat_tests) }

module _ (xs : List ℕ) (n i : ℕ) (ok : node_ok xs n i ≡ true) where
  pub ok_there : None ≡ node_at xs i → ⊥
  unfolding node_ok
  ok_there e = false≢true (ap (all_later n i) e ∙ ok)

  pub ok_saw : (node : Node ℕ) → Some node ≡ node_at xs i → (c : Cut ℕ) → node ≡ Saw c → BothLater n i c.first c.second
  unfolding node_ok
  ok_saw node read c is = both_later n i c.first c.second (ap (λ z. all_later n i (Some z)) (sym is) ∙ ap (all_later n i) read ∙ ok)
