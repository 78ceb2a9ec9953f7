-- Pieces read from numbers, three by three. Assumes nothing.
use Rattle.std.proofs.Common.{◌≡◌, ℕ, zero, suc, ◌+◌, ◌*◌, ◌/◌, ◌<◌, ◌≤◌, true, false, ◌&&◌, ltb, List, [], ◌∷◌, ◌++◌, length, get_or, take, drop, Some, None, sym, refl, ap, ◌∙◌, arith, drop-cons}
use Rattle.std.proofs.lemmas.List.{append_assoc, append-nil, length-drop, drop_all}
use Rattle.std.proofs.lemmas.Bool.{cond-true, cond-false}
use Rattle.ways.specs.declared.input.Piece.{Piece}
use Rattle.ways.specs.declared.refusals.Refusal.TheVariants.{Piece as BadPiece}
use Rattle.std.specs.Simd.{first_chunks}
use Rattle.ways.specs.Input.{piece_from, piece_ok, pieces_in}
use Rattle.ways.specs.Refusals.{fault_from}
use Rattle.ways.proofs.Chunks.{number}

-- the piece that the numbers from n on stand for
abbrev pub piece_at : List ℕ → ℕ → Piece
piece_at xs n = record { wide = get_or xs n 0; high = get_or xs (n + 1) 0; worth = get_or xs (n + 2) 0 }

-- it is the one that chunk k stands for
pub piece_in : (xs three d : List ℕ) (k : ℕ) → k < length xs / 3 → three ≡ get_or (first_chunks 3 (length xs / 3) xs) k d → piece_from three ≡ piece_at xs (3 * k)
piece_in xs three d k lt is =
    let at_three = number 3 (length xs / 3) k xs three d lt is in
    rw (at_three 0 (3 * k) (omega arith) (omega arith), at_three 1 (3 * k + 1) (omega arith) (omega arith), at_three 2 (3 * k + 2) (omega arith) (omega arith)) refl

-- the first k pieces are held, and none of them is wrong
pub record SoFar (xs : List ℕ) (k count : ℕ) (held : List Piece) : Type 0 where
  pub counted : count ≡ k
  pub rest : held ++ pieces_in (drop (3 * k) xs) ≡ pieces_in xs
  pub fault : fault_from k (drop (3 * k) xs) ≡ fault_from 0 xs

three_more : (xs : List ℕ) (k : ℕ) → 3 * k + 3 ≤ length xs → drop (3 * k) xs ≡ get_or xs (3 * k) 0 ∷ (get_or xs (3 * k + 1) 0 ∷ (get_or xs (3 * k + 2) 0 ∷ drop (3 * (k + 1)) xs))
three_more xs k le =
    let e1 : suc (3 * k) ≡ 3 * k + 1 = omega arith in
    let e2 : suc (3 * k + 1) ≡ 3 * k + 2 = omega arith in
    let e3 : suc (3 * k + 2) ≡ 3 * (k + 1) = omega arith in
    drop-cons xs (3 * k) 0 (omega arith)
    ∙ ap (λ (n : ℕ). get_or xs (3 * k) 0 ∷ drop n xs) e1
    ∙ ap (λ (z : List ℕ). get_or xs (3 * k) 0 ∷ z) (drop-cons xs (3 * k + 1) 0 (omega arith) ∙ ap (λ (n : ℕ). get_or xs (3 * k + 1) 0 ∷ drop n xs) e2)
    ∙ ap (λ (z : List ℕ). get_or xs (3 * k) 0 ∷ (get_or xs (3 * k + 1) 0 ∷ z)) (drop-cons xs (3 * k + 2) 0 (omega arith) ∙ ap (λ (n : ℕ). get_or xs (3 * k + 2) 0 ∷ drop n xs) e3)

pub so_far_none : (xs : List ℕ) (count : ℕ) (list : List Piece) → count ≡ 0 → SoFar xs 0 count (take count list)
so_far_none xs zero list e = record { counted = refl; rest = refl; fault = refl }
so_far_none xs (suc n) list e = absurd (omega arith)

module _ (xs : List ℕ) (k count : ℕ) (held : List Piece) (s : SoFar xs k count held) where
  pub so_far_more :
      (q : Piece) (count₁ : ℕ) (held₁ : List Piece) → q ≡ piece_at xs (3 * k) → 3 * k + 3 ≤ length xs → (ltb count 16 && piece_ok q) ≡ true → count₁ ≡ count + 1 →
      held₁ ≡ held ++ (q ∷ []) → SoFar xs (k + 1) count₁ held₁
  unfolding pieces_in fault_from
  so_far_more q count₁ held₁ is le fine more last =
      let p : Piece = piece_at xs (3 * k) in
      let ok = rw is at fine in
      let one = rw is at last in
      let ys : List ℕ = drop (3 * (k + 1)) xs in
      record {
        counted = omega (arith, s.counted);
        rest = ap (λ (z : List Piece). z ++ pieces_in ys) one ∙ append_assoc held (p ∷ []) (pieces_in ys) ∙ ap (λ (z : List ℕ). held ++ pieces_in z) (sym (three_more xs k le)) ∙ s.rest;
        fault = sym (cond-true _ (fault_from (k + 1) ys) (Some (BadPiece k)) (rw s.counted at ok)) ∙ ap (fault_from k) (sym (three_more xs k le)) ∙ s.fault;
      }

  pub so_far_wrong : (q : Piece) → q ≡ piece_at xs (3 * k) → 3 * k + 3 ≤ length xs → (ltb count 16 && piece_ok q) ≡ false → fault_from 0 xs ≡ Some (BadPiece count)
  unfolding fault_from
  so_far_wrong q is le wrong =
      let bad = rw is at wrong in
      sym s.fault ∙ ap (fault_from k) (three_more xs k le) ∙ cond-false _ (fault_from (k + 1) (drop (3 * (k + 1)) xs)) (Some (BadPiece k)) (rw s.counted at bad) ∙ ap (λ (n : ℕ). Some (BadPiece n)) (sym s.counted)

  pub so_far_all : length xs ≤ 3 * k → (fault_from 0 xs ≡ None) × (held ≡ pieces_in xs)
  unfolding pieces_in fault_from
  so_far_all le =
      let none : drop (3 * k) xs ≡ [] = drop_all (3 * k) xs le in (
        sym s.fault ∙ ap (fault_from k) none,
        sym (append-nil held) ∙ ap (λ (z : List ℕ). held ++ pieces_in z) (sym none) ∙ s.rest,
      )

  pub so_far_short : 3 * k < length xs → length xs < 3 * k + 3 → fault_from 0 xs ≡ Some (BadPiece k)
  unfolding fault_from
  so_far_short lo hi = sym s.fault ∙ short (drop (3 * k) xs) (omega (arith, length-drop (3 * k) xs)) (omega (arith, length-drop (3 * k) xs)) where
    short : (ys : List ℕ) → 0 < length ys → length ys < 3 → fault_from k ys ≡ Some (BadPiece k)
    short [] a b = absurd (omega arith)
    short (x ∷ []) a b = refl
    short (x ∷ (y ∷ [])) a b = refl
    short (x ∷ (y ∷ (z ∷ ys))) a b = absurd (omega arith)
