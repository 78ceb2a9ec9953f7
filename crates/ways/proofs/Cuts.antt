-- What it takes that a cut can be sawn, in numbers: the only lemmas that open `cut_ok`. Assumes nothing.
use Rattle.std.proofs.Common.{◌≡◌, ℕ, ◌+◌, ◌-◌, ◌<◌, ◌≤◌, Bool, true, ◌&&◌, List, refl, sym, ◌∙◌, arith}
use Rattle.std.proofs.lemmas.Bool.{and_parts, and_from}
use Rattle.std.proofs.lemmas.Bool.Decides.{nat_tests}
use Rattle.ways.specs.Adding.{Adds}
use Rattle.ways.specs.Parts.{side_of, with_side, sawn, CutsAt}
use Rattle.ways.specs.declared.nodes.Cut.{Cut as Sawn}
use Rattle.ways.specs.Sheet.{Way, cut_ok, can, worth_of}
use Rattle.ways.specs.declared.input.Piece.{Piece}
use Rattle.ways.specs.declared.parts.Orientation.{Orientation}
use Rattle.ways.specs.declared.parts.Orientation.TheVariants.{Upright, Level}
use Rattle.ways.specs.declared.parts.Part.{Part}

-- The blade goes in as a whole, and something is left beyond x: the blade's width, or else wood.
pub record Cut (blade side x : ℕ) : Type 0 where
  pub some : 1 ≤ x
  pub fits : x + blade ≤ side
  pub proper : x < side

pub cut_ok_parts : (blade side x : ℕ) → cut_ok blade side x ≡ true → Cut blade side x
unfolding cut_ok
cut_ok_parts blade side x e = grind (arith, nat_tests)

pub cut_ok_from : (blade side x : ℕ) → Cut blade side x → cut_ok blade side x ≡ true
unfolding cut_ok
cut_ok_from blade side x c = grind (arith, nat_tests)

cut_parts : (blade side x : ℕ) (s t : Bool) → (cut_ok blade side x && (s && t)) ≡ true → Cut blade side x × (s ≡ true) × (t ≡ true)
cut_parts blade side x s t e =
    let p = and_parts (cut_ok blade side x) (s && t) e in let q = and_parts s t p.1 in (cut_ok_parts blade side x p.0, q.0, q.1)

cut_from : (blade side x : ℕ) (s t : Bool) → Cut blade side x → s ≡ true → t ≡ true → (cut_ok blade side x && (s && t)) ≡ true
cut_from blade side x s t c p q = and_from (cut_ok blade side x) (s && t) (cut_ok_from blade side x c) (and_from s t p q)

-- what it takes that a cut can be sawn, whichever way it goes
pub can_sawn :
    (blade : ℕ) (ps : List Piece) (o : Orientation) (p : Part) (x : ℕ) (a b : Way) →
    let near = with_side o p x in
    let far = with_side o p (side_of o p.wide p.high - (x + blade)) in
    can blade ps p.wide p.high (sawn o x a b) ≡ (cut_ok blade (side_of o p.wide p.high) x && (can blade ps near.wide near.high a && can blade ps far.wide far.high b))
unfolding can
can_sawn blade ps Upright p x a b = refl
can_sawn blade ps Level p y a b = refl

pub worth_sawn : (ps : List Piece) (o : Orientation) (x : ℕ) (a b : Way) → worth_of ps (sawn o x a b) ≡ worth_of ps a + worth_of ps b
unfolding worth_of
worth_sawn ps Upright x a b = refl
worth_sawn ps Level y a b = refl

module _ (blade : ℕ) (ps : List Piece) (o : Orientation) (p : Part) (x : ℕ) (a b : Way) where
  abbrev near : Part
  near = with_side o p x

  abbrev far : Part
  far = with_side o p (side_of o p.wide p.high - (x + blade))

  pub sawn_parts : can blade ps p.wide p.high (sawn o x a b) ≡ true → Cut blade (side_of o p.wide p.high) x × (can blade ps near.wide near.high a ≡ true) × (can blade ps far.wide far.high b ≡ true)
  sawn_parts e = cut_parts blade (side_of o p.wide p.high) x _ _ (sym (can_sawn blade ps o p x a b) ∙ e)

  pub sawn_from : Cut blade (side_of o p.wide p.high) x → can blade ps near.wide near.high a ≡ true → can blade ps far.wide far.high b ≡ true → can blade ps p.wide p.high (sawn o x a b) ≡ true
  sawn_from c q r = can_sawn blade ps o p x a b ∙ cut_from blade (side_of o p.wide p.high) x _ _ c q r

-- what adds up over cuts does so whichever way they go
pub sawn_adds :
    (blade : ℕ) (value : (wide high : ℕ) → Way → ℕ) → Adds blade value → (o : Orientation) (p : Part) (x : ℕ) (a b : Way) →
    let near = with_side o p x in
    let far = with_side o p (side_of o p.wide p.high - (x + blade)) in
    value p.wide p.high (sawn o x a b) ≡ value near.wide near.high a + value far.wide far.high b
sawn_adds blade value adds Upright p x a b = adds.uprights p.wide p.high x a b
sawn_adds blade value adds Level p y a b = adds.levels p.wide p.high y a b

-- both parts of a cut are smaller than what is sawn
pub record Smaller (p q : Part) : Type 0 where
  pub narrow : q.wide ≤ p.wide
  pub low : q.high ≤ p.high
  pub less : q.wide + q.high < p.wide + p.high

pub smaller : (o : Orientation) (p q : Part) (x : ℕ) → q ≡ with_side o p x → x < side_of o p.wide p.high → Smaller p q
smaller Upright p q x e lt = rw e (record { narrow = omega arith; low = omega arith; less = omega arith })
smaller Level p q y e lt = rw e (record { narrow = omega arith; low = omega arith; less = omega arith })

-- so are the parts that a cut is said to leave
module _ (blade : ℕ) (p : Part) (o : Orientation) (x : ℕ) (c : Sawn Part) (k : CutsAt blade p o x c) where
  pub first_smaller : Smaller p c.first
  first_smaller = smaller o p c.first x k.first (cut_ok_parts blade _ x k.allowed).proper

  pub second_smaller : Smaller p c.second
  second_smaller = let cut = cut_ok_parts blade _ x k.allowed in smaller o p c.second _ k.second (omega (arith, cut.some, cut.fits))
