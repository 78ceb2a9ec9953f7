-- What a part is worth, from what smaller parts are worth. Assumes nothing.
use Rattle.std.proofs.Common.{◌≡◌, ℕ, ◌+◌, ◌-◌, ◌*◌, ◌<◌, ◌≤◌, true, List, sym, refl, ◌∙◌, ⊎_elim, mul-le-mul, mul-zero, zero-mul, arith}
use Rattle.ways.specs.Parts.{side_of, with_side, sawn}
use Rattle.ways.specs.Sheet.{Way, scrap, take, upright, level, can}
use Rattle.ways.specs.declared.input.Piece.{Piece}
use Rattle.ways.specs.declared.parts.Orientation.{Orientation}
use Rattle.ways.specs.declared.parts.Orientation.TheVariants.{Upright, Level}
use Rattle.ways.specs.declared.parts.Part.{Part}
use Rattle.ways.proofs.Cuts.{cut_ok_parts, cut_ok_from, sawn_parts, sawn_from, sawn_adds}
use Rattle.ways.proofs.Within.{within, squares_split}
use Rattle.worths.specs.Cuts.{BestCut}
use Rattle.worths.specs.Reckoned.{Most, AddsUp}

-- a part is worth at most so much a square as it lies
abbrev pub Small : (leaf : ℕ → ℕ → ℕ) → Type 0
Small leaf = (w h : ℕ) → leaf w h ≤ 100000 * (w * h)

module _ (reckoned : ℕ → ℕ → Way → ℕ) (leaf : ℕ → ℕ → ℕ) (blade : ℕ) (ps : List Piece) (adds : AddsUp reckoned leaf blade ps) where
  -- some way that can be sawn is worth v
  abbrev Got : (w h v : ℕ) → Type 0
  Got w h v = (a : Way) × (can blade ps w h a ≡ true) × (reckoned w h a ≡ v)

  got_leaf : (w h : ℕ) → Got w h (leaf w h)
  unfolding can
  got_leaf w h = ⊎_elim (λ e. (scrap, refl, e)) (λ q. (take q.0, q.1, q.2)) (adds.comes w h)

  module _ (small : Small leaf) where
    -- and so at most so much a square however it is sawn
    bound : (w h : ℕ) (a : Way) → can blade ps w h a ≡ true → reckoned w h a ≤ 100000 * (w * h)
    bound =
        within blade ps reckoned (λ w h. 100000 * (w * h)) adds.cuts (squares_split blade 100000)
        (λ w h. omega (arith, adds.scraps w h, small w h)) (λ w h k e. omega (arith, adds.takes w h k e, small w h))

    pub most_low : (w h v : ℕ) → w ≤ 60 → h ≤ 60 → Most reckoned blade ps w h v → v ≤ 360000000
    most_low w h v a b t = let squares : w * h ≤ 60 * 60 = mul-le-mul a b in omega (arith, t.worth, bound w h t.way t.able)

    -- an empty part is worth nothing
    most_empty : (w h : ℕ) → w * h ≡ 0 → Most reckoned blade ps w h 0
    most_empty w h e =
        let got = got_leaf w h in
        record {
          way = got.0;
          able = got.1;
          worth = omega (arith, got.2, small w h);
          tops = λ b c. omega (arith, bound w h b c);
        }

    pub empty_wide : (h : ℕ) → Most reckoned blade ps 0 h 0
    empty_wide h = most_empty 0 h (zero-mul h)

    pub empty_high : (w : ℕ) → Most reckoned blade ps w 0 0
    empty_high w = most_empty w 0 (mul-zero w)

  -- f is what the parts are worth to which a cut can shorten a part
  module _ (p : Part) (f : Orientation → ℕ → ℕ)
      (smaller : (o : Orientation) (x : ℕ) → x < side_of o p.wide p.high → Most reckoned blade ps (with_side o p x).wide (with_side o p x).high (f o x)) where
    pub parts_low : Small leaf → p.wide ≤ 60 → p.high ≤ 60 → (o : Orientation) (x : ℕ) → x < side_of o p.wide p.high → f o x ≤ 360000000
    parts_low small a b Upright x lt = most_low small x p.high _ (omega arith) b (smaller Upright x lt)
    parts_low small a b Level y lt = most_low small p.wide y _ a (omega arith) (smaller Level y lt)

    got_cut : (o : Orientation) (u r : ℕ) → Got p.wide p.high u → BestCut (f o) blade (side_of o p.wide p.high) u r → Got p.wide p.high r
    got_cut o u r got best =
        ⊎_elim (λ e. (got.0, got.1, got.2 ∙ sym e))
        (λ q.
        let x = q.0 in
        let c = cut_ok_parts blade (side_of o p.wide p.high) x q.1 in
        let a = smaller o x c.proper in
        let b = smaller o (side_of o p.wide p.high - (x + blade)) (omega arith) in
        (sawn o x a.way b.way, sawn_from blade ps o p x a.way b.way c a.able b.able, omega (arith, sawn_adds blade reckoned adds.cuts o p x a.way b.way, a.worth, b.worth, q.2)))
        best.came

    no_cut_more :
        (o : Orientation) (u r x : ℕ) (a b : Way) → BestCut (f o) blade (side_of o p.wide p.high) u r → can blade ps p.wide p.high (sawn o x a b) ≡ true →
        reckoned p.wide p.high (sawn o x a b) ≤ r
    no_cut_more o u r x a b best e =
        let q = sawn_parts blade ps o p x a b e in
        let c = q.0 in
        omega (
          arith,
          sawn_adds blade reckoned adds.cuts o p x a b,
          (smaller o x c.proper).tops a q.1,
          (smaller o (side_of o p.wide p.high - (x + blade)) (omega arith)).tops b q.2,
          best.most x (cut_ok_from blade (side_of o p.wide p.high) x c),
        )

    module _ (u r : ℕ) (uprights : BestCut (f Upright) blade p.wide (leaf p.wide p.high) u) (levels : BestCut (f Level) blade p.high u r) where
      none_more : (b : Way) → can blade ps p.wide p.high b ≡ true → reckoned p.wide p.high b ≤ r
      unfolding can
      none_more scrap e = omega (arith, adds.scraps p.wide p.high, uprights.least, levels.least)
      none_more (take k) e = omega (arith, adds.takes p.wide p.high k e, uprights.least, levels.least)
      none_more (upright x a b) e = omega (arith, no_cut_more Upright _ u x a b uprights e, levels.least)
      none_more (level y a b) e = no_cut_more Level u r y a b levels e

      -- the best of what lies there uncut and of all cuts
      pub most_of : Most reckoned blade ps p.wide p.high r
      most_of = let got = got_cut Level u r (got_cut Upright _ u (got_leaf p.wide p.high) uprights) levels in record { way = got.0; able = got.1; worth = got.2; tops = none_more }
