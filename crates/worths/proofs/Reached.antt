-- A cut that is looked for from the middle of a side to its beginning. Assumes nothing.
use Rattle.std.proofs.Common.{◌≡◌, ℕ, ◌+◌, ◌-◌, ◌<◌, ◌≤◌, Some, None, ⊎_elim, arith}
use Rattle.std.proofs.lemmas.Bool.{cases_lt}
use Rattle.ways.proofs.Cuts.{cut_ok_parts, cut_ok_from}
use Rattle.worths.specs.Found.{Reaching}

module _ (f : ℕ → ℕ) (blade side v : ℕ) where
  -- no cut from x to the middle is worth v
  abbrev pub NoneFrom : (x : ℕ) → Type 0
  NoneFrom x = (y : ℕ) → x ≤ y → y + y ≤ side - blade → f y + f (side - blade - y) ≡ v → ⊥

  beyond_is : (x : ℕ) → side - blade - x ≡ side - (x + blade)
  beyond_is x = omega arith

  pub none_short : side ≤ blade → Reaching f blade side v None
  none_short le x e sum = let c = cut_ok_parts blade side x e in omega arith

  -- one cut more, nearer to the beginning
  pub none_more : (x p q : ℕ) → p ≡ f x → q ≡ f (side - blade - x) → (p + q ≡ v → ⊥) → NoneFrom (x + 1) → NoneFrom x
  none_more x p q first second other from y le half sum =
      ⊎_elim (λ (more : x < y). from y (omega arith) half sum) (λ (same : y ≤ x). let e : y ≡ x = omega arith in other (omega (arith, rw e at sum))) (cases_lt x y)

  pub reached : (x p q : ℕ) → 1 ≤ x → x + x ≤ side - blade → p ≡ f x → q ≡ f (side - blade - x) → p + q ≡ v → Reaching f blade side v (Some x)
  reached x p q some half first second sum = (cut_ok_from blade side x (record { some = some; fits = omega arith; proper = omega arith }), rw (← beyond_is x) (omega arith))

  -- the cut that leaves nothing beyond the blade is looked at last
  module _ (empty : f 0 ≡ 0) (long : blade < side) where
    pub reached_whole : (p : ℕ) → 1 ≤ blade → p ≡ f (side - blade) → p ≡ v → Reaching f blade side v (Some (side - blade))
    reached_whole p thick whole is =
        let nothing : side - (side - blade + blade) ≡ 0 = omega arith in
        (cut_ok_from blade side (side - blade) (record { some = omega arith; fits = omega arith; proper = omega arith }), rw (nothing, empty) (omega arith))

    -- a cut of the farther half is the mirror of one in the nearer
    pub none_at_all : NoneFrom 1 → (1 ≤ blade → f (side - blade) ≡ v → ⊥) → Reaching f blade side v None
    none_at_all from whole x e total =
        let c = cut_ok_parts blade side x e in
        let sum : f x + f (side - blade - x) ≡ v = rw (beyond_is x) total in
        ⊎_elim
        (λ (farther : side - blade < x + x).
        ⊎_elim
        (λ (both : x < side - blade).
        let back : side - blade - (side - blade - x) ≡ x = omega arith in
        from (side - blade - x) (omega arith) (omega arith) (rw back (omega arith)))
        (λ (one : side - blade ≤ x).
        let all : x ≡ side - blade = omega (arith, c.fits) in
        let nothing : side - blade - x ≡ 0 = omega arith in
        let whole_sum : f (side - blade) + f 0 ≡ v = rw (nothing, all) at sum in
        whole (omega (arith, c.proper)) (omega arith))
        (cases_lt x (side - blade)))
        (λ (nearer : x + x ≤ side - blade). from x c.some nearer sum)
        (cases_lt (side - blade) (x + x))
