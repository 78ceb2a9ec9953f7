-- The cuts of a side tried one after another, in the nearer half only. Assumes nothing.
use Rattle.std.proofs.Common.{◌≡◌, ℕ, ◌+◌, ◌-◌, ◌*◌, ◌<◌, ◌≤◌, max, true, ◌⊎◌, refl, inl, inr, ⊎_elim, arith}
use Rattle.std.proofs.lemmas.Bool.{cases_lt}
use Rattle.ways.specs.Sheet.{cut_ok}
use Rattle.ways.proofs.Cuts.{Cut, cut_ok_parts, cut_ok_from}
use Rattle.worths.specs.Cuts.{BestCut}

-- r is the best of `before`, of the cut that leaves nothing on the other side, and of the cuts below x
pub record Tried (f : ℕ → ℕ) (blade side before x r : ℕ) : Type 0 where
  pub least : before ≤ r
  pub whole : 1 ≤ blade → f (side - blade) ≤ r
  pub near : (y : ℕ) → 1 ≤ y → y < x → f y + f (side - (y + blade)) ≤ r
  pub came : (r ≡ before) ⊎ ((y : ℕ) × (cut_ok blade side y ≡ true) × (r ≡ f y + f (side - (y + blade))))

module _ (f : ℕ → ℕ) (blade side before : ℕ) where
  -- where the side is no longer than the blade is thick there is no cut
  pub tried_none : side ≤ blade → BestCut f blade side before before
  tried_none le =
      record {
        least = omega arith;
        most = λ x e. let c = cut_ok_parts blade side x e in absurd (omega arith);
        came = inl refl;
      }

  -- a blade that takes nothing has no cut that leaves nothing
  pub tried_thin : blade ≡ 0 → Tried f blade side before 1 before
  tried_thin z = record { least = omega arith; whole = λ b. absurd (omega arith); near = λ y p q. absurd (omega arith); came = inl refl }

  pub tried_whole : (v r : ℕ) → f 0 ≡ 0 → 1 ≤ blade → blade < side → v ≡ f (side - blade) → r ≡ max before v → Tried f blade side before 1 r
  tried_whole v r z b lt e m =
      record {
        least = omega arith;
        whole = λ _. omega arith;
        near = λ y p q. absurd (omega arith);
        came =
            ⊎_elim
            (λ (less : before < v).
            let nothing : side - (side - blade + blade) ≡ 0 = omega arith in
            let good : Cut blade side (side - blade) = record { some = omega arith; fits = omega arith; proper = omega arith } in
            inr (side - blade, cut_ok_from blade side (side - blade) good, rw (nothing, z) (omega arith)))
            (λ (ge : v ≤ before). inl (omega arith)) (cases_lt before v);
      }

  -- one cut more
  pub tried_more :
      (x r v s : ℕ) → Tried f blade side before x r → v ≡ f x + f (side - (x + blade)) → s ≡ max r v → 1 ≤ x → x < side → x + blade ≤ side → Tried f blade side before (x + 1) s
  tried_more x r v s t e m some proper fits =
      record {
        least = omega (arith, t.least);
        whole = λ b. omega (arith, t.whole b);
        near = λ y p q.
            ⊎_elim (λ (lt : y < x). omega (arith, t.near y p lt)) (λ (ge : x ≤ y). let same : y ≡ x = omega arith in rw same (omega arith)) (cases_lt y x);
        came =
            ⊎_elim (λ (less : r < v). let now_v : s ≡ v = omega arith in inr (x, cut_ok_from blade side x (record { some = some; fits = fits; proper = proper }), rw now_v e))
            (λ (ge : v ≤ r). let kept : s ≡ r = omega arith in rw kept t.came) (cases_lt r v);
      }

  -- a cut of the farther half is the mirror of one in the nearer
  pub tried_all : (x r : ℕ) → f 0 ≡ 0 → Tried f blade side before x r → side - blade < 2 * x → BestCut f blade side before r
  tried_all x r z t half = record { least = t.least; most = λ y e. most y (cut_ok_parts blade side y e); came = t.came }
    where
      most : (y : ℕ) → Cut blade side y → f y + f (side - (y + blade)) ≤ r
      most y c =
          ⊎_elim (λ (nearer : y < x). t.near y c.some nearer)
          (λ (farther : x ≤ y).
          ⊎_elim
          (λ (both : y + blade < side).
          let mirror : side - (side - (y + blade) + blade) ≡ y = omega arith in
          let m = rw mirror at (t.near (side - (y + blade)) (omega arith) (omega arith)) in
          omega arith)
          (λ (one : side ≤ y + blade).
          let nothing : side - (y + blade) ≡ 0 = omega arith in
          let all : y ≡ side - blade = omega arith in
          rw (nothing, z, all) (omega (arith, t.whole (omega arith))))
          (cases_lt (y + blade) side))
          (cases_lt y x)
