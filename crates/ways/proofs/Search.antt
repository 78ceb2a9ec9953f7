-- A best one among finitely many classes, for any total order of values. Assumes nothing.
use Rattle.std.proofs.Common.{◌≡◌, ℕ, zero, suc, ◌<◌, ◌≤◌, ◌⊎◌, inl, inr, arith}
use Rattle.std.proofs.lemmas.Bool.{cases_lt}

-- values, of any two of which one is no more than the other (a total preorder)
pub record Order (V : Type 0) : Type 1 where
  pub below : V → V → Type 0
  pub same : (x : V) → below x x
  pub chain : (x y z : V) → below x y → below y z → below x z
  pub either : (x y : V) → below x y ⊎ below y x

abbrev pub numbers : Order ℕ
numbers =
    record {
      below = ◌≤◌;
      same = λ x. omega arith;
      chain = λ x y z p q. omega arith;
      either = λ x y. elim (cases_lt x y) [ inl h ↦ inl (omega arith) | inr h ↦ inr h ];
    }

-- something that is allowed, by P, than which none of the class C is worth more
pub record Top {A V : Type 0} (O : Order V) (v : A → V) (P : A → Type 0) (C : A → Type 0) : Type 0 where
  pub it : A
  pub allowed : P it
  pub tops : (b : A) → C b → O.below (v b) (v it)

-- the k that are ok can be gone through: whatever classes C k there are, if each of them has a top, all together have one
abbrev pub Finds : {A V K : Type 0} → Order V → (A → V) → (A → Type 0) → (K → Type 0) → Type 1
Finds {A} {V} {K} O v P Ok = (C : K → A → Type 0) → ((k : K) → Ok k → Top O v P (C k)) → Top O v P (λ b. (k : K) × Ok k × C k b)

module _ {A V : Type 0} (O : Order V) (v : A → V) (P : A → Type 0) where
  -- of a smaller class
  pub top_part : (C D : A → Type 0) → ((b : A) → D b → C b) → Top O v P C → Top O v P D
  top_part C D f t = record { it = t.it; allowed = t.allowed; tops = λ b d. t.tops b (f b d) }

  pub top_one : (a : A) → P a → Top O v P (λ b. b ≡ a)
  top_one a p = record { it = a; allowed = p; tops = λ b e. rw e (O.same (v a)) }

  pub top_none : (C : A → Type 0) → (a : A) → P a → ((b : A) → C b → ⊥) → Top O v P C
  top_none C a p f = record { it = a; allowed = p; tops = λ b c. absurd (f b c) }

  pub top_both : (C D : A → Type 0) → Top O v P C → Top O v P D → Top O v P (λ b. C b ⊎ D b)
  top_both C D s t =
      elim (O.either (v s.it) (v t.it)) [
        | inl h ↦ record { it = t.it; allowed = t.allowed; tops = λ b. elim [ inl c ↦ O.chain _ _ _ (s.tops b c) h | inr d ↦ t.tops b d ] }
        | inr h ↦ record { it = s.it; allowed = s.allowed; tops = λ b. elim [ inl c ↦ s.tops b c | inr d ↦ O.chain _ _ _ (t.tops b d) h ] }
      ]

  -- the numbers below n
  pub finds_below : (a : A) → P a → (n : ℕ) → Finds O v P (λ k. k < n)
  finds_below a p zero C f = top_none _ a p (λ b c. omega (arith, c.1))
  finds_below a p (suc n) C f =
      top_part (λ b. ((k : ℕ) × (k < n) × C k b) ⊎ C n b) (λ b. (k : ℕ) × (k < suc n) × C k b) (λ b c. split b c.0 c.1 c.2)
      (top_both (λ b. (k : ℕ) × (k < n) × C k b) (C n) (finds_below a p n C (λ k h. f k (omega arith))) (f n (omega arith)))
    where
      split : (b : A) (k : ℕ) → k < suc n → C k b → ((k : ℕ) × (k < n) × C k b) ⊎ C n b
      split b k h c = elim (cases_lt k n) [ inl l ↦ inl (k, l, c) | inr g ↦ let e : k ≡ n = omega arith in inr (rw e at c) ]

  -- those that pass a test
  pub finds_where : {K : Type 0} (Ok Q : K → Type 0) → (a : A) → P a → ((k : K) → Q k ⊎ (Q k → ⊥)) → ((k : K) → Q k → Ok k) → Finds O v P Ok → Finds O v P Q
  finds_where {K} Ok Q a p test sub find C f =
      top_part (λ b. (k : K) × Ok k × (Q k × C k b)) (λ b. (k : K) × Q k × C k b) (λ b c. (c.0, sub c.0 c.1, (c.1, c.2)))
      (find (λ k b. Q k × C k b) (λ k _. one k (test k)))
    where
      one : (k : K) → Q k ⊎ (Q k → ⊥) → Top O v P (λ b. Q k × C k b)
      one k (inl q) = top_part (C k) (λ b. Q k × C k b) (λ b c. c.1) (f k q)
      one k (inr n) = top_none _ a p (λ b c. n c.0)

  -- those of two kinds
  pub finds_either :
      {K L M : Type 0} (Ok : K → Type 0) (g : L → K) (h : M → K) → ((k : K) → Ok k → ((l : L) × (g l ≡ k)) ⊎ ((m : M) × (h m ≡ k))) →
      Finds O v P (λ l. Ok (g l)) → Finds O v P (λ m. Ok (h m)) → Finds O v P Ok
  finds_either {K} {L} {M} Ok g h cover one two C f =
      top_part (λ b. ((l : L) × Ok (g l) × C (g l) b) ⊎ ((m : M) × Ok (h m) × C (h m) b)) (λ b. (k : K) × Ok k × C k b) (λ b c. go b c.0 c.1 c.2 (cover c.0 c.1))
      (top_both _ _ (one (λ l. C (g l)) (λ l. f (g l))) (two (λ m. C (h m)) (λ m. f (h m))))
    where
      go : (b : A) (k : K) → Ok k → C k b → ((l : L) × (g l ≡ k)) ⊎ ((m : M) × (h m ≡ k)) → ((l : L) × Ok (g l) × C (g l) b) ⊎ ((m : M) × Ok (h m) × C (h m) b)
      go b k o c (inl l) = inl (l.0, rw l.1 o, rw l.1 c)
      go b k o c (inr m) = inr (m.0, rw m.1 o, rw m.1 c)
