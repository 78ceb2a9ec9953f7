-- A node read from the chunk of its four numbers. Assumes nothing.
use Rattle.std.proofs.Common.{◌≡◌, ℕ, ◌+◌, ◌*◌, ◌/◌, ◌<◌, ◌≤◌, false, leb, List, length, get_or, None, Ok, Err, Result, refl, sym, ◌∙◌, arith}
use Rattle.std.proofs.lemmas.Bool.{le-leb, lt-leb}
use Rattle.std.specs.Result.{result_ok}
use Rattle.std.specs.Simd.{first_chunks}
use Rattle.ways.specs.declared.nodes.Node.{Node}
use Rattle.ways.specs.declared.nodes.UnknownKind.{UnknownKind}
use Rattle.ways.specs.Nodes.{node_from, node_at, Reads}
use Rattle.ways.proofs.Chunks.{number}

pub past_the_last : (xs : List ℕ) (i : ℕ) → length xs / 4 ≤ i → None ≡ node_at xs i
unfolding node_at
past_the_last xs i le = let past : leb (4 * i + 4) (length xs) ≡ false = lt-leb (4 * i + 4) (length xs) (omega arith) in rw past refl

module _ (xs four d : List ℕ) (i : ℕ) (lt : i < length xs / 4) (is : four ≡ get_or (first_chunks 4 (length xs / 4) xs) i d) where
  at_four : (j at : ℕ) → j < 4 → at ≡ i * 4 + j → get_or four j 0 ≡ get_or xs at 0
  at_four = number 4 (length xs / 4) i xs four d lt is

  same : node_from (get_or four 0 0) (get_or four 1 0) (get_or four 2 0) (get_or four 3 0) ≡ node_at xs i
  unfolding node_at
  same =
      rw (
        le-leb (4 * i + 4) (length xs) (omega arith),
        at_four 0 (4 * i) (omega arith) (omega arith),
        at_four 1 (4 * i + 1) (omega arith) (omega arith),
        at_four 2 (4 * i + 2) (omega arith) (omega arith),
        at_four 3 (4 * i + 3) (omega arith) (omega arith),
      )
      refl

  pub read_there : (r : Result (Node ℕ) UnknownKind) → Reads four r → result_ok r ≡ node_at xs i
  read_there (Ok node) e = sym e ∙ same
  read_there (Err e) told = sym told.0 ∙ same
