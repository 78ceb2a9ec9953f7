-- What is left of a whole sheet, in the words of those who asked for it. Assumes nothing.
use Rattle.std.proofs.Common.{◌≡◌, ℕ, List, length, Some, None, Ok, Err, Option, Result, sym, ap, ◌∙◌, subst, le_refl, arith}
use Rattle.nodes.specs.Written.{Leaves}
use Rattle.nodes.proofs.Left.{leaves_so}
use Rattle.ways.specs.Input.{pieces_in}
use Rattle.ways.specs.Judged.{judged}
use Rattle.ways.specs.Refusals.{sheet_fault, pieces_fault, room_fault, refusal}
use Rattle.ways.specs.Sheet.{Way, worth_of, Best}
use Rattle.ways.specs.declared.checked.Sheet.{Sheet}
use Rattle.ways.specs.declared.input.Piece.{Piece}
use Rattle.ways.specs.declared.refusals.Refusal.{Refusal}
use Rattle.ways.proofs.Agrees.{agrees}
use Rattle.worths.specs.Pieces.{best_fit}
use Rattle.worths.specs.Reckoned.{AddsUp}
use Rattle.worths.specs.Table.{value_at, ValuesAre}
use Rattle.worths.specs.declared.Values.{Values}
use Rattle.worths.proofs.Found.{value_said}
use Rattle.best.specs.Entry.{BestWay, SawnOrRefused}
use Rattle.best.specs.Wanted.{BestFor, BestWorth}
use Rattle.saw.specs.Entry.{DoneSays, JudgeAgrees}
use Rattle.saw.specs.declared.Done.TheVariants.{Sawn}
use Rattle.best.specs.declared.Plan.{Plan}
use Rattle.best.proofs.Choosing.{top_worth}

-- a best way for the sheet of a right table is worth what the table says of the whole sheet
module _ (reckoned : ℕ → ℕ → ℕ → Way → ℕ) (leaf : ℕ → ℕ → ℕ) (ps : List Piece) (t : Values)
    (adds : AddsUp (reckoned t.sheet.blade) leaf t.sheet.blade ps) (right : ValuesAre reckoned ps t) (s : Sheet) (same : t.sheet ≡ s) where
  pub best_worth :
      (w h v : ℕ) → w ≡ s.wide → h ≡ s.high → value_at t t.sheet.wide t.sheet.high ≡ Some v →
      (a : Way) → BestFor (reckoned t.sheet.blade) leaf t.sheet.blade ps w h a → BestWorth (reckoned s.blade) leaf s.blade ps s.wide s.high v a
  best_worth w h v wide high whole a best =
      let here : BestFor (reckoned t.sheet.blade) leaf t.sheet.blade ps t.sheet.wide t.sheet.high a =
      rw (← (wide ∙ ap (λ (z : Sheet). z.wide) (sym same)), ← (high ∙ ap (λ (z : Sheet). z.high) (sym same))) best in
      let worth = top_worth reckoned leaf ps t adds right t.sheet.wide t.sheet.high a (le_refl _) (le_refl _) here.top in
      subst (λ (z : Sheet). BestWorth (reckoned z.blade) leaf z.blade ps z.wide z.high v a) same
      (record { best = here; worth = worth ∙ sym (value_said t t.sheet.wide t.sheet.high v (sym whole)).2 })

-- for pieces that is a best way
module _ (blade : ℕ) (ps : List Piece) (w h v : ℕ) where
  pub best_way : (a : Way) → BestWorth (λ w h. worth_of ps) (best_fit ps) blade ps w h v a → BestWay blade ps w h v a
  unfolding Best
  best_way a k = record { best = k.best.top; worth = k.worth; thrifty = k.best.thrifty }

  -- and it is judged as it was answered
  pub left_judged : (room : List ℕ) (n : ℕ) (room₁ : List ℕ) → Leaves (BestWay blade ps w h v) room n room₁ → judged blade ps w h room₁ ≡ Some v
  unfolding Best
  left_judged room n room₁ k = agrees room₁ n k.later blade ps w h v k.some (omega (arith, k.within, k.as_long)) k.wanted.best.0 k.wanted.worth

-- what is answered in one way of asking is so in another that follows
pub says_so :
    (f : Option Refusal) (P Q : ℕ → Way → Type 0) (room : List ℕ) (r : Result Plan Refusal) (room₁ : List ℕ) → ((v : ℕ) (a : Way) → P v a → Q v a) →
    SawnOrRefused f P room r room₁ → SawnOrRefused f Q room r room₁
says_so (Some e) P Q room r room₁ so k = k
says_so None P Q room (Ok s) room₁ so k = leaves_so (P s.worth) (Q s.worth) s.nodes room room₁ (so s.worth) k
says_so None P Q room (Err e) room₁ so k = k

-- the sheet and the pieces were taken as they were asked for
pub asked_for :
    (wide high blade : ℕ) (numbers room : List ℕ) (r : Result Plan Refusal) (room₁ : List ℕ) (s : Sheet) (ps : List Piece) → sheet_fault wide high blade ≡ None → s.wide ≡ wide →
    s.high ≡ high → s.blade ≡ blade → pieces_fault numbers ≡ None → ps ≡ pieces_in numbers →
    SawnOrRefused (room_fault s.wide s.high (length room)) (BestWorth (λ w h. worth_of ps) (best_fit ps) s.blade ps s.wide s.high) room r room₁ →
    SawnOrRefused (refusal wide high blade numbers (length room)) (BestWay blade (pieces_in numbers) wide high) room r room₁
asked_for wide high blade numbers room r room₁ s ps sheet as_wide as_high as_blade pieces as_pieces k =
    let asked : SawnOrRefused (room_fault wide high (length room)) (BestWorth (λ w h. worth_of (pieces_in numbers)) (best_fit (pieces_in numbers)) blade (pieces_in numbers) wide high) room r room₁ =
    rw (as_wide, as_high, as_blade, as_pieces) at k in
    rw (sheet, pieces) (says_so (room_fault wide high (length room)) _ _ room r room₁ (best_way blade (pieces_in numbers) wide high) asked)

-- so the entry may answer it
pub done : (f : Option Refusal) (wide high blade : ℕ) (ps : List Piece) (room : List ℕ) (s : Plan) (room₁ : List ℕ) → SawnOrRefused f (BestWay blade ps wide high) room (Ok s) room₁ →
    DoneSays f (BestWay blade ps wide high) room (Sawn s.nodes s.worth) room₁ × JudgeAgrees wide high blade ps (Sawn s.nodes s.worth) room₁
done (Some e) wide high blade ps room s room₁ k = let never = k.0 in let z : ◌≡◌ {A = ℕ} 0 1 = cc in absurd (omega arith)
done None wide high blade ps room s room₁ k = (k, left_judged blade ps wide high s.worth room s.nodes room₁ k)
