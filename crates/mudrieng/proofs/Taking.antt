-- What the program takes from a job, and what it shows of the room. Assumes nothing.
use Rattle.std.proofs.Common.{◌≡◌, ℕ, ◌+◌, ◌*◌, ◌/◌, ◌<◌, ◌≤◌, true, List, [], ◌∷◌, length, take, refl, ap, arith}
use Rattle.std.proofs.lemmas.Bool.{le-leb}
use Rattle.std.proofs.lemmas.List.{get_or-take, length-take-le}
use Rattle.ways.specs.Input.{pieces_in}
use Rattle.ways.specs.Nodes.{node_at, node_ok}
use Rattle.mudrieng.specs.Jobs.{pieces_named, numbers_named}
use Rattle.mudrieng.specs.declared.jobs.Named.{Named}

pub pieces_numbered : (ns : List Named) → pieces_in (numbers_named ns) ≡ pieces_named ns
unfolding pieces_in
pieces_numbered [] = refl
pieces_numbered (n ∷ ns) = ap (λ ps. n.piece ∷ ps) (pieces_numbered ns)

-- the first n nodes are the same without what stands behind them
module _ (xs : List ℕ) (n : ℕ) (within : 4 * n ≤ length xs) where
  same_node : (k : ℕ) → k < n → node_at (take (4 * n) xs) k ≡ node_at xs k
  unfolding node_at
  same_node k lt =
      rw (
        length-take-le (4 * n) xs within,
        le-leb (4 * k + 4) (4 * n) (omega arith),
        le-leb (4 * k + 4) (length xs) (omega arith),
        get_or-take (4 * n) xs (4 * k) 0 (omega arith),
        get_or-take (4 * n) xs (4 * k + 1) 0 (omega arith),
        get_or-take (4 * n) xs (4 * k + 2) 0 (omega arith),
        get_or-take (4 * n) xs (4 * k + 3) 0 (omega arith),
      )
      refl

  many : length (take (4 * n) xs) / 4 ≡ n
  many = omega (arith, length-take-le (4 * n) xs within)

  pub some_alone : 0 < n → 0 < length (take (4 * n) xs) / 4
  some_alone lt = omega (arith, many)

  pub later_alone : ((k : ℕ) → k < n → node_ok xs n k ≡ true) → (k : ℕ) → k < length (take (4 * n) xs) / 4 → node_ok (take (4 * n) xs) (length (take (4 * n) xs) / 4) k ≡ true
  unfolding node_ok
  later_alone ok k lt = rw (many, same_node k (omega (arith, many))) (ok k (omega (arith, many)))
