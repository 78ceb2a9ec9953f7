-- What adds up over cuts stays within what cuts split. Assumes nothing.
use Rattle.std.proofs.Common.{◌≡◌, ℕ, ◌+◌, ◌-◌, ◌*◌, ◌≤◌, true, List, mul-le-mul_right, add-mul, mul-le-mul_left, mul-add, arith}
use Rattle.ways.specs.Adding.{Adds}
use Rattle.ways.specs.Sheet.{Way, scrap, take, upright, level, piece_fits, can}
use Rattle.ways.specs.Parts.{side_of, with_side}
use Rattle.ways.specs.declared.input.Piece.{Piece}
use Rattle.ways.specs.declared.parts.Orientation.{Orientation}
use Rattle.ways.specs.declared.parts.Orientation.TheVariants.{Upright, Level}
use Rattle.ways.specs.declared.parts.Part.{Part}
use Rattle.ways.proofs.Cuts.{Cut, sawn_parts}

-- a part has at least as much room as the two parts of any cut have together
pub record Splits (blade : ℕ) (room : (wide high : ℕ) → ℕ) : Type 0 where
  pub uprights : (w h x : ℕ) → Cut blade w x → room x h + room (w - (x + blade)) h ≤ room w h
  pub levels : (w h y : ℕ) → Cut blade h y → room w y + room w (h - (y + blade)) ≤ room w h

pub sawn_splits :
    (blade : ℕ) (room : (wide high : ℕ) → ℕ) → Splits blade room → (o : Orientation) (p : Part) (x : ℕ) → Cut blade (side_of o p.wide p.high) x →
    let near = with_side o p x in
    let far = with_side o p (side_of o p.wide p.high - (x + blade)) in
    room near.wide near.high + room far.wide far.high ≤ room p.wide p.high
sawn_splits blade room splits Upright p x c = splits.uprights p.wide p.high x c
sawn_splits blade room splits Level p y c = splits.levels p.wide p.high y c

-- what has room as it lies has room however it is sawn, by a case for each constructor of a way
module _ (blade : ℕ) (ps : List Piece) (value : ℕ → ℕ → Way → ℕ) (room : ℕ → ℕ → ℕ) (adds : Adds blade value) (splits : Splits blade room)
    (scraps : (w h : ℕ) → value w h scrap ≤ room w h) (takes : (w h k : ℕ) → piece_fits ps k w h ≡ true → value w h (take k) ≤ room w h) where
  pub within : (w h : ℕ) (a : Way) → can blade ps w h a ≡ true → value w h a ≤ room w h
  unfolding can
  within w h scrap e = scraps w h
  within w h (take k) e = takes w h k e
  within w h (upright x a b) e =
      let p = sawn_parts blade ps Upright (record { wide = w; high = h }) x a b e in
      omega (arith, adds.uprights w h x a b, within x h a p.1, within (w - (x + blade)) h b p.2, splits.uprights w h x p.0)
  within w h (level y a b) e =
      let p = sawn_parts blade ps Level (record { wide = w; high = h }) y a b e in
      omega (arith, adds.levels w h y a b, within w y a p.1, within w (h - (y + blade)) b p.2, splits.levels w h y p.0)

-- the squares are split, whatever each is worth
pub squares_split : (blade each : ℕ) → Splits blade (λ w h. each * (w * h))
squares_split blade each =
    record {
      uprights = λ w h x c. rw (← mul-add each (x * h) ((w - (x + blade)) * h), ← add-mul x (w - (x + blade)) h) (mul-le-mul_left each (mul-le-mul_right h (omega (arith, c.fits))));
      levels = λ w h y c. rw (← mul-add each (w * y) (w * (h - (y + blade))), ← mul-add w y (h - (y + blade))) (mul-le-mul_left each (mul-le-mul_left w (omega (arith, c.fits))));
    }
