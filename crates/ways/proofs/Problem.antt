-- What is cut in two again and again has a best way: for any states, ways, cuts and values. Assumes nothing.
use Rattle.std.proofs.Common.{◌≡◌, ℕ, zero, suc, ◌<◌, ◌⊎◌, arith}
use Rattle.ways.proofs.Search.{Order, Top, Finds, top_part, top_both}

-- states S, as sheets; ways A; cuts K; values V
pub record Problem (S A K V : Type 0) : Type 1 where
  pub order : Order V
  pub can : S → A → Type 0
  pub worth : S → A → V
  -- what is done without a cut has a top
  pub leaf : S → A → Type 0
  pub leafs : (s : S) → Top order (worth s) (can s) (leaf s)
  -- the cuts that may be made, and both parts
  pub ok : S → K → Type 0
  pub first : S → K → S
  pub second : S → K → S
  pub join : K → A → A → A
  pub joins : (s : S) (k : K) (a b : A) → ok s k → can (first s k) a → can (second s k) b → can s (join k a b)
  -- a way is done without a cut, or is a cut and what is done with both parts
  pub parts : (s : S) (b : A) → can s b → leaf s b ⊎ ((k : K) × ok s k × ((a : A) × (c : A) × (b ≡ join k a c) × can (first s k) a × can (second s k) c))
  -- what both parts are worth together is no less if one is worth more
  pub plus : S → K → V → V → V
  pub adds : (s : S) (k : K) (a b : A) → worth s (join k a b) ≡ plus s k (worth (first s k) a) (worth (second s k) b)
  pub grows : (s : S) (k : K) (x y u t : V) → order.below x u → order.below y t → order.below (plus s k x y) (plus s k u t)
  -- there are finitely many cuts, and the parts are smaller
  pub finds : (s : S) → Finds order (worth s) (can s) (ok s)
  pub size : S → ℕ
  pub less : (s : S) (k : K) → ok s k → (size (first s k) < size s) × (size (second s k) < size s)

module _ {S A K V : Type 0} (p : Problem S A K V) where
  -- a way than which none that can be sawn is worth more
  abbrev pub Bests : S → Type 0
  Bests s = Top p.order (p.worth s) (p.can s) (p.can s)

  -- what is cut by k and gone on with
  abbrev pub Sawn : S → K → A → Type 0
  Sawn s k b = (a : A) × (c : A) × (b ≡ p.join k a c) × p.can (p.first s k) a × p.can (p.second s k) c

  -- with best parts none that is cut there is worth more
  pub sawn : (s : S) (k : K) → p.ok s k → Bests (p.first s k) → Bests (p.second s k) → Top p.order (p.worth s) (p.can s) (Sawn s k)
  sawn s k o l r =
      record {
        it = p.join k l.it r.it;
        allowed = p.joins s k l.it r.it o l.allowed r.allowed;
        tops = λ b c. rw (c.2, p.adds s k c.0 c.1, p.adds s k l.it r.it) (p.grows s k _ _ _ _ (l.tops c.0 c.3) (r.tops c.1 c.4));
      }

  bests : (n : ℕ) (s : S) → p.size s < n → Bests s
  bests zero s h = absurd (omega arith)
  bests (suc n) s h =
      top_part p.order (p.worth s) (p.can s) (λ b. p.leaf s b ⊎ ((k : K) × p.ok s k × Sawn s k b)) (p.can s) (p.parts s)
      (top_both p.order (p.worth s) (p.can s) (p.leaf s) (λ b. (k : K) × p.ok s k × Sawn s k b) (p.leafs s)
      (p.finds s (Sawn s) (λ k o. let m = p.less s k o in sawn s k o (bests n (p.first s k) (omega arith)) (bests n (p.second s k) (omega arith)))))

  pub best : (s : S) → Bests s
  best s = bests (suc (p.size s)) s (omega arith)
