-- Turned by a quarter it is the same. Assumes nothing.
use Rattle.std.proofs.Common.{◌≡◌, ℕ, zero, suc, ◌+◌, ◌-◌, eqb, List, [], ◌∷◌, sym, refl, ◌∙◌, ap₂, arith}
use mathlib.Core.Bool.{and_comm}
use Rattle.ways.specs.Sheet.{Way, scrap, take, upright, level, piece_fits, worth_at, can, worth_of, Best}
use Rattle.ways.specs.declared.input.Piece.{Piece}
use Rattle.theorems.specs.Turning.{turned, turned_way}
use Rattle.theorems.specs.Statements.{Turned, TurnedBest}

turned_fits : (ps : List Piece) (k w h : ℕ) → piece_fits (turned ps) k h w ≡ piece_fits ps k w h
unfolding piece_fits turned
turned_fits [] k w h = refl
turned_fits (p ∷ ps) zero w h = and_comm (eqb p.high h) (eqb p.wide w)
turned_fits (p ∷ ps) (suc k) w h = turned_fits ps k w h

turned_worth : (ps : List Piece) (k : ℕ) → worth_at (turned ps) k ≡ worth_at ps k
unfolding worth_at turned
turned_worth [] k = refl
turned_worth (p ∷ ps) zero = refl
turned_worth (p ∷ ps) (suc k) = turned_worth ps k

-- a case for each constructor of a way
pub turned_same : Turned
unfolding can worth_of turned_way
turned_same blade ps w h scrap = (refl, refl)
turned_same blade ps w h (take k) = (turned_fits ps k w h, turned_worth ps k)
turned_same blade ps w h (upright x a b) =
    let l = turned_same blade ps x h a in
    let r = turned_same blade ps (w - (x + blade)) h b in
    (rw (l.0, r.0), ap₂ ◌+◌ l.1 r.1)
turned_same blade ps w h (level y a b) =
    let l = turned_same blade ps w y a in
    let r = turned_same blade ps w (h - (y + blade)) b in
    (rw (l.0, r.0), ap₂ ◌+◌ l.1 r.1)

-- turned twice it lies as it lay
twice : (a : Way) → turned_way (turned_way a) ≡ a
unfolding turned_way
twice scrap = refl
twice (take k) = refl
twice (upright x a b) = ap₂ (upright x) (twice a) (twice b)
twice (level y a b) = ap₂ (level y) (twice a) (twice b)

pub turned_best : TurnedBest
unfolding Best
turned_best blade ps w h a best =
    let s = turned_same blade ps w h a in (
      s.0 ∙ best.0,
      λ b e.
          let t = turned_same blade ps w h (turned_way b) in
          let back = rw (twice b) at t in
          omega (arith, s.1, back.1, best.1 (turned_way b) (sym back.0 ∙ e)),
    )
