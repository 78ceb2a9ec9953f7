-- Numbers in chunks, read one by one. Assumes nothing.
use Rattle.std.proofs.Common.{◌≡◌, ℕ, zero, suc, ◌+◌, ◌*◌, ◌<◌, List, get_or, drop, sym, ap, ◌∙◌, arith}
use Rattle.std.proofs.lemmas.List.{get_or-take, get_or-drop}
use Rattle.std.specs.Simd.{first_chunks}

-- number j of chunk i
in_chunk : (n k i j : ℕ) (xs d : List ℕ) → i < k → j < n → get_or (get_or (first_chunks n k xs) i d) j 0 ≡ get_or xs (i * n + j) 0
in_chunk n zero i j xs d lt less = absurd (omega arith)
in_chunk n (suc k) zero j xs d lt less = get_or-take n xs j 0 less ∙ ap (λ m. get_or xs m 0) (omega arith)
in_chunk n (suc k) (suc i) j xs d lt less =
    in_chunk n k i j (drop n xs) d (omega arith) less ∙ get_or-drop n xs (i * n + j) 0 ∙ ap (λ m. get_or xs m 0) (omega arith)

-- a number of what was read as chunk i
pub number : (n k i : ℕ) (xs chunk d : List ℕ) → i < k → chunk ≡ get_or (first_chunks n k xs) i d → (j at : ℕ) → j < n → at ≡ i * n + j → get_or chunk j 0 ≡ get_or xs at 0
number n k i xs chunk d lt is j at less e = ap (λ z. get_or z j 0) is ∙ in_chunk n k i j xs d lt less ∙ ap (λ m. get_or xs m 0) (sym e)
