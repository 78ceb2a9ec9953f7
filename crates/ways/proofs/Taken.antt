-- Where no part of what is asked for has a fault, nothing is refused. Assumes nothing.
use Rattle.std.proofs.Common.{◌≡◌, ℕ, ◌*◌, ◌≤◌, List, None, refl}
use Rattle.std.proofs.lemmas.Bool.{le-leb}
use Rattle.ways.specs.Refusals.{sheet_fault, pieces_fault, room_fault, refusal}

pub taken : (w h b : ℕ) (xs : List ℕ) (n : ℕ) → sheet_fault w h b ≡ None → pieces_fault xs ≡ None → 8 * (w * h) ≤ n → refusal w h b xs n ≡ None
unfolding room_fault
taken w h b xs n sheet pieces enough = rw (sheet, pieces, le-leb (8 * (w * h)) n enough) refl
