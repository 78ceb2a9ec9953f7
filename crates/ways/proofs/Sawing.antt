-- Sawing a sheet is such a problem, so every sheet has a best way. Assumes nothing.
use Rattle.std.proofs.Common.{◌≡◌, ℕ, ◌+◌, ◌-◌, ◌<◌, true, ◌⊎◌, List, length, refl, ap, inl, inr, arith}
use Rattle.std.proofs.lemmas.Bool.{both_ways, cases_Bool, cases_lt}
use Rattle.std.proofs.lemmas.Bool.Decides.{nat_tests}
use Rattle.ways.specs.Parts.{side_of, with_side, sawn}
use Rattle.ways.specs.Sheet.{Way, scrap, take, upright, level, piece_fits, can, worth_of, Best}
use Rattle.ways.specs.declared.input.Piece.{Piece}
use Rattle.ways.specs.declared.parts.Orientation.{Orientation}
use Rattle.ways.specs.declared.parts.Orientation.TheVariants.{Upright, Level}
use Rattle.ways.specs.declared.parts.Part.{Part}
use Rattle.ways.proofs.Cuts.{Cut, sawn_parts, sawn_from, worth_sawn, smaller}
use Rattle.ways.proofs.Fits.{fits_past}
use Rattle.ways.proofs.Search.{Order, numbers, Top, Finds, top_one, top_both, finds_below, finds_where, finds_either}
use Rattle.ways.proofs.Problem.{Problem, best}

-- where a part is sawn: which way, and how far from the beginning of that side
pub record Line : Type 0 where
  pub way : Orientation
  pub at : ℕ

abbrev pub line : Orientation → ℕ → Line
line o x = record { way = o; at = x }

module _ (blade : ℕ) where
  abbrev pub Ok : Part → Line → Type 0
  Ok p k = Cut blade (side_of k.way p.wide p.high) k.at

  abbrev pub first : Part → Line → Part
  first p k = with_side k.way p k.at

  abbrev pub second : Part → Line → Part
  second p k = with_side k.way p (side_of k.way p.wide p.high - (k.at + blade))

  pub less : (p : Part) (k : Line) → Ok p k → ((first p k).wide + (first p k).high < p.wide + p.high) × ((second p k).wide + (second p k).high < p.wide + p.high)
  less p k c =
      ((smaller k.way p (first p k) k.at refl c.proper).less, (smaller k.way p (second p k) (side_of k.way p.wide p.high - (k.at + blade)) refl (omega (arith, c.some, c.fits))).less)

  lines : (p : Part) (k : Line) → Ok p k → ((x : ℕ) × (line Upright x ≡ k)) ⊎ ((y : ℕ) × (line Level y ≡ k))
  lines p k c = either k.way refl where
    either : (o : Orientation) → o ≡ k.way → ((x : ℕ) × (line Upright x ≡ k)) ⊎ ((y : ℕ) × (line Level y ≡ k))
    either Upright e = inl (k.at, ap (λ o. line o k.at) e)
    either Level e = inr (k.at, ap (λ o. line o k.at) e)

  cases_cut : (side x : ℕ) → Cut blade side x ⊎ (Cut blade side x → ⊥)
  cases_cut side x = grind (arith, nat_tests)

  -- the cuts of a sheet can be gone through, since there is none at or past its end
  pub cuts : {V : Type 0} (O : Order V) (v : Way → V) (P : Way → Type 0) → P scrap → (s : Part) → Finds O v P (Ok s)
  cuts O v P p s = finds_either O v P (Ok s) (line Upright) (line Level) (lines s) (along s.wide) (along s.high)
    where
      along : (side : ℕ) → Finds O v P (Cut blade side)
      along side = finds_where O v P (λ x. x < side) (Cut blade side) scrap p (cases_cut side) (λ x c. c.proper) (finds_below O v P scrap p side)

module _ (blade : ℕ) (ps : List Piece) where
  abbrev pub Can : Part → Way → Type 0
  Can s a = can blade ps s.wide s.high a ≡ true

  scrap_can : (s : Part) → Can s scrap
  unfolding can
  scrap_can s = refl

  -- the sheet lies as it is: scrap, or a piece
  abbrev pub Lies : Part → Way → Type 0
  Lies s b = (b ≡ scrap) ⊎ ((k : ℕ) × (piece_fits ps k s.wide s.high ≡ true) × (b ≡ take k))

  fits_below : (s : Part) (k : ℕ) → piece_fits ps k s.wide s.high ≡ true → k < length ps
  fits_below s k e = elim (cases_lt k (length ps)) [ inl lt ↦ lt | inr ge ↦ absurd (both_ways _ (fits_past ps k s.wide s.high ge) e) ]

  pub lies : {V : Type 0} (O : Order V) (v : Way → V) (s : Part) → Top O v (Can s) (Lies s)
  unfolding can
  lies O v s =
      top_both O v (Can s) (λ b. b ≡ scrap) (λ b. (k : ℕ) × (piece_fits ps k s.wide s.high ≡ true) × (b ≡ take k)) (top_one O v (Can s) scrap (scrap_can s))
      (finds_where O v (Can s) (λ k. k < length ps) (λ k. piece_fits ps k s.wide s.high ≡ true) scrap (scrap_can s)
      (λ k. elim (cases_Bool (piece_fits ps k s.wide s.high)) [ inl e ↦ inl e | inr e ↦ inr (λ t. both_ways _ e t) ]) (fits_below s)
      (finds_below O v (Can s) scrap (scrap_can s) (length ps)) (λ k b. b ≡ take k) (λ k e. top_one O v (Can s) (take k) e))

  pub joins : (s : Part) (k : Line) (a b : Way) → Ok blade s k → Can (first blade s k) a → Can (second blade s k) b → Can s (sawn k.way k.at a b)
  joins s k a b c p q = sawn_from blade ps k.way s k.at a b c p q

  pub parts :
      (s : Part) (b : Way) → Can s b →
      Lies s b ⊎ ((k : Line) × Ok blade s k × ((a : Way) × (c : Way) × (b ≡ sawn k.way k.at a c) × Can (first blade s k) a × Can (second blade s k) c))
  unfolding can
  parts s scrap e = inl (inl refl)
  parts s (take k) e = inl (inr (k, e, refl))
  parts s (upright x a b) e = let p = sawn_parts blade ps Upright s x a b e in inr (line Upright x, p.0, (a, b, refl, p.1, p.2))
  parts s (level y a b) e = let p = sawn_parts blade ps Level s y a b e in inr (line Level y, p.0, (a, b, refl, p.1, p.2))

  pub sawing : Problem Part Way Line ℕ
  sawing =
      record {
        order = numbers;
        can = Can;
        worth = λ s. worth_of ps;
        leaf = Lies;
        leafs = lies numbers (worth_of ps);
        ok = Ok blade;
        first = first blade;
        second = second blade;
        join = λ k. sawn k.way k.at;
        joins = joins;
        parts = parts;
        plus = λ s k. ◌+◌;
        adds = λ s k. worth_sawn ps k.way k.at;
        grows = λ s k x y u t p q. omega arith;
        finds = λ s. cuts blade numbers (worth_of ps) (Can s) (scrap_can s) s;
        size = λ s. s.wide + s.high;
        less = less blade;
      }

  pub has_best : (w h : ℕ) → (a : Way) × Best blade ps w h a
  unfolding Best sawing
  has_best w h = let t = best sawing (record { wide = w; high = h }) in (t.it, (t.allowed, t.tops))
