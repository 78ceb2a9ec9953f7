-- Where a part stands in the table. Assumes nothing.
use Rattle.std.proofs.Common.{◌≡◌, ℕ, zero, suc, ◌<◌, ◌≤◌, ◌≢◌, ◌⊎◌, List, length, get_or, set, refl, inl, inr, arith, get_or-set_other, get_or-set_same}
use Rattle.ways.specs.declared.parts.Orientation.{Orientation}
use Rattle.ways.specs.declared.parts.Orientation.TheVariants.{Upright, Level}
use Rattle.ways.specs.declared.parts.Part.{Part}
use Rattle.worths.specs.Cuts.{part_of}
use Rattle.worths.specs.Table.{place_of, HasPlace, cell}

pub cell_empty : (xs : List ℕ) (w h : ℕ) → (w ≡ 0) ⊎ (h ≡ 0) → cell xs w h ≡ 0
unfolding cell
cell_empty xs zero h e = refl
cell_empty xs (suc w) zero e = refl
cell_empty xs (suc w) (suc h) (inl e) = absurd (omega arith)
cell_empty xs (suc w) (suc h) (inr e) = absurd (omega arith)

-- a part without a place is empty, if no side is above 60
pub cell_of_none : (xs : List ℕ) (w h : ℕ) → w ≤ 60 → h ≤ 60 → (HasPlace (record { wide = w; high = h }) → ⊥) → cell xs w h ≡ 0
unfolding cell
cell_of_none xs zero h a b none = refl
cell_of_none xs (suc w) zero a b none = refl
cell_of_none xs (suc w) (suc h) a b none = absurd (none (omega arith, a, omega arith, b))

pub part_empty : (o : Orientation) (xs : List ℕ) (p : Part) → part_of o xs p 0 ≡ 0
part_empty Upright xs p = cell_empty xs 0 p.high (inl refl)
part_empty Level xs p = cell_empty xs p.wide 0 (inr refl)

pub cell_at : (xs : List ℕ) (w h : ℕ) → 1 ≤ w → 1 ≤ h → get_or xs (place_of w h) 0 ≡ cell xs w h
unfolding cell
cell_at xs zero h p q = absurd (omega arith)
cell_at xs (suc w) zero p q = absurd (omega arith)
cell_at xs (suc w) (suc h) p q = refl

-- what is written for a part is read for it, and for no other
pub cell_same : (xs : List ℕ) (w h v : ℕ) → 1 ≤ w → 1 ≤ h → place_of w h < length xs → cell (set xs (place_of w h) v) w h ≡ v
cell_same xs w h v p q lt = rw (← cell_at (set xs (place_of w h) v) w h p q) (rw get_or-set_same)

pub cell_other : (xs : List ℕ) (w h v x y : ℕ) → 1 ≤ w → 1 ≤ h → h ≤ 60 → y ≤ 60 → ((x ≡ w) → (y ≡ h) → ⊥) → cell (set xs (place_of w h) v) x y ≡ cell xs x y
unfolding cell
cell_other xs w h v zero y p q r s ne = refl
cell_other xs w h v (suc x) zero p q r s ne = refl
cell_other xs w h v (suc x) (suc y) p q r s ne =
    let differ : place_of (suc x) (suc y) ≢ place_of w h = λ e. ne (omega arith) (omega arith) in get_or-set_other xs (place_of w h) (place_of (suc x) (suc y)) v 0 differ
