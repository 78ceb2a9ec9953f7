-- What the entry that saws a sheet answers and leaves behind. Assumes nothing: these are definitions.
use Rattle.std.specs.Prelude.{◌≡◌, ℕ, List, Some, None, Ok, Err, Option, Result}
use Rattle.nodes.specs.Written.{Leaves}
use Rattle.ways.specs.Sheet.{Way, worth_of, Best}
use Rattle.ways.specs.declared.input.Piece.{Piece}
use Rattle.ways.specs.declared.refusals.Refusal.{Refusal}
use Rattle.worths.specs.Pieces.{best_fit}
use Rattle.best.specs.Wanted.{Thrifty}
use Rattle.best.specs.declared.Plan.{Plan}

-- a best way of the sheet, worth v, in which no part is sawn that is worth as much as it lies
pub record BestWay (blade : ℕ) (ps : List Piece) (wide high v : ℕ) (a : Way) : Type 0 where
  pub best : Best blade ps wide high a
  pub worth : worth_of ps a ≡ v
  pub thrifty : Thrifty (λ w h. worth_of ps) (best_fit ps) blade wide high a

-- a refusal is answered, and the room is as it was; where nothing is to be refused, a way that is wanted is left, worth what is
-- answered
abbrev pub SawnOrRefused : Option Refusal → (Wanted : (v : ℕ) → Way → Type 0) → (room : List ℕ) → Result Plan Refusal → (room₁ : List ℕ) → Type 0
SawnOrRefused (Some e) Wanted room r room₁ = (r ≡ Err e) × (room₁ ≡ room)
SawnOrRefused None Wanted room (Ok s) room₁ = Leaves (Wanted s.worth) room s.nodes room₁
SawnOrRefused None Wanted room (Err e) room₁ = ⊥
