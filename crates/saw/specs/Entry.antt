-- What the entry that saws a sheet answers and leaves behind. Assumes nothing: these are definitions.
use Rattle.std.specs.Prelude.{◌≡◌, ℕ, ◌*◌, ◌≤◌, true, List, Some, None, Option}
use Rattle.nodes.specs.Written.{Leaves}
use Rattle.ways.specs.Input.{pieces_in}
use Rattle.ways.specs.Judged.{judged}
use Rattle.ways.specs.Refusals.{number_of, refusal}
use Rattle.ways.specs.Sheet.{Way, can, worth_of}
use Rattle.ways.specs.View.{pieces_of}
use Rattle.ways.specs.declared.checked.Pieces.{Pieces}
use Rattle.ways.specs.declared.checked.Sheet.{Sheet}
use Rattle.ways.specs.declared.input.Piece.{Piece}
use Rattle.ways.specs.declared.refusals.Refusal.{Refusal}
use Rattle.saw.specs.declared.Done.{Done}
use Rattle.saw.specs.declared.Done.TheVariants.{Sawn, Refused}

-- a way of the sheet that can be sawn, worth v
pub record WayOf (blade : ℕ) (ps : List Piece) (wide high v : ℕ) (a : Way) : Type 0 where
  pub able : can blade ps wide high a ≡ true
  pub worth : worth_of ps a ≡ v

-- a refusal is answered by its number, and the room is as it was; where nothing is to be refused, a way that is wanted is left,
-- worth what is answered
abbrev pub DoneSays : Option Refusal → (Wanted : (worth : ℕ) → Way → Type 0) → (room : List ℕ) → Done → (room₁ : List ℕ) → Type 0
DoneSays (Some e) Wanted room r room₁ = (r ≡ Refused (number_of e)) × (room₁ ≡ room)
DoneSays None Wanted room (Sawn n v) room₁ = Leaves (Wanted v) room n room₁
DoneSays None Wanted room (Refused k) room₁ = ⊥

-- what is left is judged to be a way that can be sawn, of the worth that is answered
abbrev pub JudgeAgrees : (wide high blade : ℕ) → List Piece → Done → (room₁ : List ℕ) → Type 0
JudgeAgrees w h b ps (Sawn n v) room₁ = judged b ps w h room₁ ≡ Some v
JudgeAgrees w h b ps (Refused k) room₁ = Unit {0}

-- a sheet and pieces as they were asked for, with nothing to be refused
pub record Accepted (wide high blade : ℕ) (numbers : List ℕ) (room : ℕ) (r : Sheet × Pieces) : Type 0 where
  pub taken : refusal wide high blade numbers room ≡ None
  pub as_wide : r.0.wide ≡ wide
  pub as_high : r.0.high ≡ high
  pub as_blade : r.0.blade ≡ blade
  pub as_pieces : pieces_of r.1 ≡ pieces_in numbers
  pub enough : 8 * (wide * high) ≤ room
