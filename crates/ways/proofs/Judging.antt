-- What a part is worth as its node says, from what the parts are that the node names. Assumes nothing.
use Rattle.std.proofs.Common.{◌≡◌, ℕ, zero, suc, ◌+◌, ◌-◌, ◌*◌, ◌/◌, ◌<◌, ◌≤◌, Bool, true, false, cond, ◌&&◌, List, length, Some, None, Option, sym, refl, ap, ◌∙◌, inl, inr, mul-le-mul, arith}
use Rattle.std.proofs.lemmas.Option.{cond_some, none-some}
use Rattle.std.proofs.lemmas.Bool.{and_parts, cases_lt}
use Rattle.std.proofs.lemmas.Bool.Decides.{nat_tests}
use Rattle.ways.specs.declared.nodes.Cut.{Cut}
use Rattle.ways.specs.declared.nodes.Node.{Node}
use Rattle.ways.specs.declared.nodes.Node.TheVariants.{Scrap, Take, Saw}
use Rattle.ways.specs.declared.parts.Part.{Part}
use Rattle.ways.specs.Parts.{side_of, with_side}
use Rattle.ways.specs.Sheet.{piece_fits, worth_at, cut_ok, can, worth_of}
use Rattle.ways.specs.declared.input.Piece.{Piece}
use Rattle.ways.specs.Input.{pieces_ok}
use Rattle.ways.specs.Nodes.{node_at, way_from, way_at, all_later, node_ok}
use Rattle.ways.specs.Judged.{both_parts, sound, worth_from}
use Rattle.ways.proofs.Cuts.{can_sawn, worth_sawn}
use Rattle.ways.proofs.Fits.{worth_bound}
use Rattle.ways.proofs.Fours.{past_the_last}
use Rattle.ways.proofs.Named.{both_later}

-- both parts together, where both can be sawn
abbrev pub both : Option ℕ → Option ℕ → Option ℕ
both None r = None
both (Some v) None = None
both (Some v) (Some u) = Some (v + u)

abbrev pub only_if : Bool → Option ℕ → Option ℕ
only_if t r = cond t r None

-- the tests of a cut, put in the order in which they are made
regroup :
    (k p a q b : Bool) (v u : ℕ) →
    cond ((p && q) && (k && (a && b))) (Some (v + u)) None ≡ only_if k (both (cond (p && a) (Some v) None) (cond (q && b) (Some u) None))
regroup k p a q b v u = grind (arith, nat_tests)

never : (t : Bool) → None ≡ only_if t None
never true = refl
never false = refl

pub there : (xs : List ℕ) (i : ℕ) (node : Node ℕ) → node_at xs i ≡ Some node → i < length xs / 4
there xs i node e = elim (cases_lt i (length xs / 4)) [ inl lt ↦ lt | inr le ↦ absurd (none-some node (past_the_last xs i le ∙ e)) ]

module _ (blade : ℕ) (ps : List Piece) (xs : List ℕ) where
  abbrev n : ℕ
  n = length xs / 4

  -- what the part is worth, read so many levels deep
  abbrev pub worth_here : (l i : ℕ) → Part → Option ℕ
  worth_here l i p = worth_from blade ps xs (length xs / 4) l i p.wide p.high

  -- r is what the part is worth, however deep is read
  abbrev pub Found : (r : Option ℕ) (i : ℕ) → Part → Type 0
  Found r i p = (l : ℕ) → length xs / 4 ≤ l + i → r ≡ worth_here l i p

  -- also where the node's number is put in other words
  pub found_as : (r : Option ℕ) (i j : ℕ) (p : Part) → i ≡ j → Found r i p → Found r j p
  found_as r i j p same f = rw (← same) f

  -- where node i is there, at least one level is read
  deep : (r : Option ℕ) (i : ℕ) (p : Part) → i < n → ((l : ℕ) → n ≤ suc l + i → r ≡ worth_here (suc l) i p) → Found r i p
  deep r i p here f zero le = absurd (omega arith)
  deep r i p here f (suc l) le = f l le

  pub found_missing : (i : ℕ) (p : Part) → None ≡ node_at xs i → Found None i p
  unfolding worth_from sound node_ok
  found_missing i p e zero le = refl
  found_missing i p e (suc l) le = rw (← e) refl

  -- what follows is of the node that was read as node i
  module _ (i : ℕ) (p : Part) (node : Node ℕ) (read : Some node ≡ node_at xs i) where
    pub found_unsound : false ≡ all_later (length xs / 4) i (Some node) → Found None i p
    unfolding worth_from sound node_ok
    found_unsound e zero le = refl
    found_unsound e (suc l) le = rw (← read, ← e) refl

    pub found_scrap : node ≡ Scrap → Found (Some 0) i p
    unfolding worth_from sound node_ok both_parts way_at way_from can worth_of
    found_scrap is = deep (Some 0) i p (there xs i node (sym read)) (λ l le. rw (← read, is) refl)

    pub found_take : (k : ℕ) → node ≡ Take k → Found (cond (piece_fits ps k p.wide p.high) (Some (worth_at ps k)) None) i p
    unfolding worth_from sound node_ok both_parts way_at way_from can worth_of
    found_take k is = deep _ i p (there xs i node (sym read)) (λ l le. rw (← read, is) refl)

  -- node i saws its part into two, whose nodes come later, if the cut may be made
  pub record Split (ok : Bool) (i : ℕ) (p : Part) (a : ℕ) (near : Part) (b : ℕ) (far : Part) : Type 0 where
    pub here : i < length xs / 4
    pub first_later : i < a
    pub second_later : i < b
    pub splits : (l : ℕ) → worth_here (suc l) i p ≡ only_if ok (both (worth_here l a near) (worth_here l b far))

  pub split_saw :
      (i : ℕ) (p : Part) (node : Node ℕ) → Some node ≡ node_at xs i → true ≡ all_later (length xs / 4) i (Some node) → (c : Cut ℕ) → node ≡ Saw c →
      let side = side_of c.orientation p.wide p.high in
      Split (cut_ok blade side c.at) i p c.first (with_side c.orientation p c.at) c.second (with_side c.orientation p (side - (c.at + blade)))
  unfolding worth_from sound node_ok both_parts way_at way_from
  split_saw i p node read later c is =
      let ok : true ≡ all_later n i (Some (Saw c)) = rw is at later in
      let near = with_side c.orientation p c.at in
      let far = with_side c.orientation p (side_of c.orientation p.wide p.high - (c.at + blade)) in
      record {
        here = there xs i node (sym read);
        first_later = (both_later n i c.first c.second (sym ok)).first_after;
        second_later = (both_later n i c.first c.second (sym ok)).second_after;
        splits = λ l. let first = way_at xs l c.first in let second = way_at xs l c.second in
            rw (← read, is, ← ok, can_sawn blade ps c.orientation p c.at first second, worth_sawn ps c.orientation c.at first second)
            (regroup (cut_ok blade (side_of c.orientation p.wide p.high) c.at) (sound xs n l c.first) (can blade ps near.wide near.high first)
            (sound xs n l c.second) (can blade ps far.wide far.high second) (worth_of ps first) (worth_of ps second));
      }

  module _ (ok : Bool) (i : ℕ) (p : Part) (a : ℕ) (near : Part) (b : ℕ) (far : Part) (s : Split ok i p a near b far) where
    -- from what was found of both parts
    from_both : (r q t : Option ℕ) → r ≡ only_if ok (both q t) → Found q a near → Found t b far → Found r i p
    from_both r q t e f g =
        deep r i p s.here (λ l le. e ∙ ap (λ z. only_if ok (both z t)) (f l (omega (arith, s.first_later))) ∙ ap (λ z. only_if ok (both (worth_here l a near) z)) (g l (omega (arith, s.second_later))) ∙ sym (s.splits l))

    pub split_refused : ok ≡ false → Found None i p
    split_refused e = deep None i p s.here (λ l le. rw (s.splits l, e) refl)

    pub split_first : Found None a near → Found None i p
    split_first f = deep None i p s.here (λ l le. rw (s.splits l, ← f l (omega (arith, s.first_later))) (never ok))

    pub split_second : (v : ℕ) → Found (Some v) a near → Found None b far → Found None i p
    split_second v = from_both None (Some v) None (never ok)

    pub split_sum : (v u : ℕ) → ok ≡ true → Found (Some v) a near → Found (Some u) b far → Found (Some (v + u)) i p
    split_sum v u e = from_both (Some (v + u)) (Some v) (Some u) (rw e refl)

  -- no part of the sheet is worth so much that a sum of two could be too large
  pub found_small : pieces_ok ps ≡ true → (i : ℕ) (p : Part) (v : ℕ) → p.wide ≤ 60 → p.high ≤ 60 → Found (Some v) i p → v ≤ 360000000
  unfolding worth_from
  found_small ok i p v ew eh f =
      let told = cond_some (sound xs n n i && can blade ps p.wide p.high (way_at xs n i)) (worth_of ps (way_at xs n i)) v (sym (f n (omega arith))) in
      let able = and_parts (sound xs n n i) (can blade ps p.wide p.high (way_at xs n i)) told.0 in
      let area : p.wide * p.high ≤ 60 * 60 = mul-le-mul ew eh in
      omega (arith, told.1, worth_bound blade ps ok p.wide p.high (way_at xs n i) able.1)
