-- Counts to which those of a way are added. Assumes nothing.
use Rattle.std.proofs.Common.{◌≡◌, ℕ, zero, suc, ◌+◌, ◌*◌, ◌<◌, ◌≤◌, true, List, length, get_or, set, replicate, sym, refl, inl, inr, mul-le-mul, arith, get_or-set_other, get_or-set_same}
use lib.ListN.{length-replicate}
use Rattle.std.proofs.lemmas.Bool.{both_ways, cases_lt, cases_eq, eq-eqb, ne_eqb}
use Rattle.std.proofs.lemmas.Bool.Decides.{nat_tests}
use Rattle.ways.specs.Adding.{Adds}
use Rattle.ways.specs.Input.{pieces_ok}
use Rattle.ways.specs.Nodes.{way_at}
use Rattle.ways.specs.Parts.{sawn}
use Rattle.ways.specs.Sheet.{Way, take, piece_fits, can}
use Rattle.ways.specs.declared.input.Piece.{Piece}
use Rattle.ways.specs.declared.parts.Orientation.{Orientation}
use Rattle.ways.specs.declared.parts.Orientation.TheVariants.{Upright, Level}
use Rattle.ways.proofs.Fits.{fits_ok, fits_past}
use Rattle.ways.proofs.Within.{within, squares_split}
use Rattle.yields.specs.Counts.{count_of}
use Rattle.yields.specs.Walks.{Sound, RoomFor}

-- what was added to counts
abbrev pub Added : Way → (before after : List ℕ) → Type 0
Added a before after = (k : ℕ) → get_or after k 0 ≡ get_or before k 0 + count_of k a

-- a cut yields what its parts yield
pub count_sawn : (o : Orientation) (x k : ℕ) (p q : Way) → count_of k (sawn o x p q) ≡ count_of k p + count_of k q
unfolding count_of
count_sawn Upright x k p q = refl
count_sawn Level y k p q = refl

pub noughts : (n k : ℕ) → ◌≡◌ {A = ℕ} (get_or (replicate n 0) k 0) 0
noughts zero k = refl
noughts (suc n) zero = refl
noughts (suc n) (suc k) = noughts n k

module _ (o : Orientation) (x : ℕ) (a p q : Way) (is : a ≡ sawn o x p q) where
  pub room_first : (cs : List ℕ) → RoomFor a cs → RoomFor p cs
  room_first cs room =
      record {
        place = λ k le. omega (arith, count_sawn o x k p q, rw is at (room.place k le));
        small = λ k. omega (arith, count_sawn o x k p q, rw is at (room.small k));
      }

  pub room_second : (cs ds : List ℕ) → length ds ≡ length cs → Added p cs ds → RoomFor a cs → RoomFor q ds
  room_second cs ds long added room =
      record {
        place = λ k le. omega (arith, count_sawn o x k p q, rw is at (room.place k (omega arith)));
        small = λ k. omega (arith, count_sawn o x k p q, added k, rw is at (room.small k));
      }

  pub added_both : (cs ds es : List ℕ) → Added p cs ds → Added q ds es → Added a cs es
  added_both cs ds es first second k = rw is (omega (arith, count_sawn o x k p q, first k, second k))

-- a node's number in other words
module _ (xs cs : List ℕ) (l i j : ℕ) (same : i ≡ j) where
  pub asked_as : Sound xs l j → RoomFor (way_at xs l j) cs → (m : ℕ) × Sound xs m i × RoomFor (way_at xs m i) cs
  asked_as sound room = (l, rw same sound, rw same room)

  pub added_as : (ds : List ℕ) → (Sound xs l i → Added (way_at xs l i) cs ds) → Sound xs l j → Added (way_at xs l j) cs ds
  added_as ds so = rw same at so

one_of_it : (j : ℕ) → count_of j (take j) ≡ 1
unfolding count_of
one_of_it j = rw (eq-eqb j j refl) refl

none_of_another : (k j : ℕ) → (j ≡ k → ⊥) → count_of k (take j) ≡ 0
unfolding count_of
none_of_another k j ne = rw (ne_eqb j k ne) refl

module _ (a : Way) (j : ℕ) (is : a ≡ take j) (cs : List ℕ) where
  pub take_place : RoomFor a cs → j < length cs
  take_place room = elim (cases_lt j (length cs)) [ inl lt ↦ lt | inr ge ↦ absurd (omega (arith, one_of_it j, rw is at (room.place j ge))) ]

  pub added_one : j < length cs → Added a cs (set cs j (get_or cs j 0 + 1))
  added_one lt k = rw is (elim (cases_eq j k) [
    | inl e ↦ rw (← e, one_of_it j, get_or-set_same {A = ℕ} cs j (get_or cs j 0 + 1) 0 lt) refl
    | inr ne ↦ rw (none_of_another k j ne, get_or-set_other cs j k (get_or cs j 0 + 1) 0 (λ e. ne (sym e))) (omega arith)
  ])

-- a way that can be sawn yields no more of a piece than the sheet has squares, and none of a piece that isn't there
module _ (blade : ℕ) (ps : List Piece) (k : ℕ) where
  counts_add : Adds blade (λ w h. count_of k)
  unfolding count_of
  counts_add = record { uprights = λ w h x a b. refl; levels = λ w h y a b. refl }

  count_within :
      (each : ℕ) → ((w h j : ℕ) → piece_fits ps j w h ≡ true → count_of k (take j) ≤ each * (w * h)) →
      (w h : ℕ) (a : Way) → can blade ps w h a ≡ true → count_of k a ≤ each * (w * h)
  unfolding count_of
  count_within each takes = within blade ps (λ w h. count_of k) (λ w h. each * (w * h)) counts_add (squares_split blade each) (λ w h. omega arith) takes

  one_a_square : pieces_ok ps ≡ true → (w h j : ℕ) → piece_fits ps j w h ≡ true → count_of k (take j) ≤ 1 * (w * h)
  unfolding count_of
  one_a_square ok w h j e =
      let fits = fits_ok ps j w h ok e in
      let one : 1 * 1 ≤ w * h = mul-le-mul fits.0 fits.1 in
      grind (arith, nat_tests)

  none_past : length ps ≤ k → (w h j : ℕ) → piece_fits ps j w h ≡ true → count_of k (take j) ≤ 0 * (w * h)
  none_past le w h j e =
      let ne : j ≡ k → ⊥ = λ is. both_ways _ (fits_past ps j w h (omega arith)) e in omega (arith, none_of_another k j ne)

pub room_at_first :
    (blade : ℕ) (ps : List Piece) (w h : ℕ) (a : Way) (n : ℕ) → pieces_ok ps ≡ true → length ps ≤ n → w ≤ 60 → h ≤ 60 → can blade ps w h a ≡ true →
    RoomFor a (replicate n 0)
room_at_first blade ps w h a n ok few ew eh e =
    let all : w * h ≤ 60 * 60 = mul-le-mul ew eh in
    record {
      place = λ k le. omega (arith, length-replicate {A = ℕ} n 0, count_within blade ps k 0 (none_past blade ps k (omega (arith, length-replicate {A = ℕ} n 0))) w h a e);
      small = λ k. omega (arith, noughts n k, count_within blade ps k 1 (one_a_square blade ps k ok) w h a e);
    }
