-- A larger sheet, or one with more sorts, is worth no less. Assumes nothing.
use Rattle.std.proofs.Common.{◌≡◌, ℕ, zero, suc, ◌+◌, ◌-◌, ◌≤◌, true, List, [], ◌∷◌, ◌++◌, refl, ap₂, inl, inr, arith}
use Rattle.std.proofs.lemmas.Bool.{false≢true}
use Rattle.ways.specs.Sheet.{Way, scrap, take, upright, level, piece_fits, worth_at, can, worth_of, Best}
use Rattle.ways.specs.declared.input.Piece.{Piece}
use Rattle.ways.specs.declared.parts.Orientation.TheVariants.{Upright, Level}
use Rattle.ways.proofs.Cuts.{cut_ok_parts, cut_ok_from, sawn_parts, sawn_from}
use Rattle.theorems.specs.Statements.{AsLong, LargerSheet, LargerByTheBlade, MoreSorts}

module _ (blade : ℕ) (ps : List Piece) where
  -- some way of a sheet is worth so much
  abbrev Got : (w h v : ℕ) → Type 0
  Got w h v = (a : Way) × (can blade ps w h a ≡ true) × (worth_of ps a ≡ v)

  -- the smaller sheet is sawn off, and the rest is scrap: each side by itself, as one lemma for both would need three about sides
  wider : (w h v n : ℕ) → AsLong blade w v → Got w h n → Got v h n
  unfolding can worth_of
  wider w h v n (inl e) got = rw e got
  wider w h v n (inr e) got =
      (upright w got.0 scrap, sawn_from blade ps Upright (record { wide = v; high = h }) w got.0 scrap (cut_ok_parts blade v w e) got.1 refl, omega (arith, got.2))

  higher : (w h g n : ℕ) → AsLong blade h g → Got w h n → Got w g n
  unfolding can worth_of
  higher w h g n (inl e) got = rw e got
  higher w h g n (inr e) got =
      (level h got.0 scrap, sawn_from blade ps Level (record { wide = w; high = g }) h got.0 scrap (cut_ok_parts blade g h e) got.1 refl, omega (arith, got.2))

pub larger_sheet : LargerSheet
unfolding Best
larger_sheet blade ps w h v g a b wide high p q =
    let got = wider blade ps w g v (worth_of ps a) wide (higher blade ps w h g (worth_of ps a) high (a, p.0, refl)) in
    omega (arith, got.2, q.1 got.0 got.1)

off_it : (blade side more : ℕ) → 1 ≤ side → side + (blade + 1) ≤ more → AsLong blade side more
off_it blade side more some le = inr (cut_ok_from blade more side (record { some = some; fits = omega arith; proper = omega arith }))

pub larger_by_the_blade : LargerByTheBlade
larger_by_the_blade blade ps w h v g a b wide high more_wide more_high p q =
    larger_sheet blade ps w h v g a b (off_it blade w v wide more_wide) (off_it blade h g high more_high) p q

-- what fits among some pieces fits among more, and is worth the same
more_fits : (ps qs : List Piece) (k w h : ℕ) → piece_fits ps k w h ≡ true → (piece_fits (ps ++ qs) k w h ≡ true) × (worth_at (ps ++ qs) k ≡ worth_at ps k)
unfolding piece_fits worth_at
more_fits [] qs k w h e = absurd (false≢true e)
more_fits (p ∷ ps) qs zero w h e = (e, refl)
more_fits (p ∷ ps) qs (suc k) w h e = more_fits ps qs k w h e

-- a case for each constructor of a way
more_can : (blade : ℕ) (ps qs : List Piece) (w h : ℕ) (a : Way) → can blade ps w h a ≡ true → (can blade (ps ++ qs) w h a ≡ true) × (worth_of (ps ++ qs) a ≡ worth_of ps a)
unfolding can worth_of
more_can blade ps qs w h scrap e = (refl, refl)
more_can blade ps qs w h (take k) e = more_fits ps qs k w h e
more_can blade ps qs w h (upright x a b) e =
    let p = sawn_parts blade ps Upright (record { wide = w; high = h }) x a b e in
    let l = more_can blade ps qs x h a p.1 in
    let r = more_can blade ps qs (w - (x + blade)) h b p.2 in
    (sawn_from blade (ps ++ qs) Upright (record { wide = w; high = h }) x a b p.0 l.0 r.0, ap₂ ◌+◌ l.1 r.1)
more_can blade ps qs w h (level y a b) e =
    let p = sawn_parts blade ps Level (record { wide = w; high = h }) y a b e in
    let l = more_can blade ps qs w y a p.1 in
    let r = more_can blade ps qs w (h - (y + blade)) b p.2 in
    (sawn_from blade (ps ++ qs) Level (record { wide = w; high = h }) y a b p.0 l.0 r.0, ap₂ ◌+◌ l.1 r.1)

pub more_sorts : MoreSorts
unfolding Best
more_sorts blade ps qs w h a b p q = let m = more_can blade ps qs w h a p.0 in omega (arith, m.1, q.1 a m.0)
