-- What is turned away, by number and place. Assumes nothing: these are definitions.
use Rattle.std.specs.Fmt.{decimal}
use Rattle.std.specs.Prelude.{ℕ, ◌+◌, ◌*◌, cond, ◌&&◌, List, [], ◌∷◌, ◌++◌, Some, None, Option, codes, nat_le, nat_lt}
use Rattle.ways.specs.Input.{piece_ok}
use Rattle.ways.specs.declared.refusals.Refusal.{Refusal}
use Rattle.ways.specs.declared.refusals.Refusal.TheVariants.{Wide, High, Blade, Piece, Room, Line}

-- refusals are looked for in the order of their numbers
abbrev pub number_of : Refusal → ℕ
number_of Wide = 1
number_of High = 1
number_of Blade = 1
number_of (Piece k) = 2
number_of (Room n) = 3
number_of (Line k) = 4

-- which of the width, the height and the blade; the piece; the room's length; the line
abbrev pub place_of : Refusal → ℕ
place_of Wide = 0
place_of High = 1
place_of Blade = 2
place_of (Piece k) = k
place_of (Room n) = n
place_of (Line k) = k

-- what is said of it
abbrev pub words_of : Refusal → List ℕ
words_of Wide = codes "the sheet's width has to be 1 to 60"
words_of High = codes "the sheet's height has to be 1 to 60"
words_of Blade = codes "the blade may take 60 at most"
words_of (Piece k) = codes "there may be sixteen pieces, each at least 1 wide and high and worth 100000 at most"
words_of (Room n) = codes "the room has to have eight numbers for each square of the sheet"
words_of (Line k) = codes "a job has one line 'sheet WIDE HIGH blade BLADE' and lines 'piece NAME WIDE HIGH WORTH'"

-- with its number and place
abbrev pub text_of : Refusal → List ℕ
text_of e = codes "refused " ++ decimal (number_of e) ++ codes " at " ++ decimal (place_of e) ++ codes ": " ++ words_of e

-- a sheet is 1 to 60 wide and high, and a blade takes 60 at most
unfoldable pub sheet_fault : (wide high blade : ℕ) → Option Refusal
sheet_fault w h b = cond (nat_le 1 w && nat_le w 60) (cond (nat_le 1 h && nat_le h 60) (cond (nat_le b 60) None (Some Blade)) (Some High)) (Some Wide)

-- the first piece that is wrong, where these numbers begin with piece k: it is past the sixteenth, lacks one of its three
-- numbers, or is not as it may be
unfoldable pub fault_from : (k : ℕ) → List ℕ → Option Refusal
fault_from k [] = None
fault_from k (a ∷ []) = Some (Piece k)
fault_from k (a ∷ (b ∷ [])) = Some (Piece k)
fault_from k (a ∷ (b ∷ (c ∷ xs))) = cond (nat_lt k 16 && piece_ok (record { wide = a; high = b; worth = c })) (fault_from (k + 1) xs) (Some (Piece k))

-- the same of all pieces
abbrev pub pieces_fault : List ℕ → Option Refusal
pieces_fault xs = fault_from 0 xs

-- a room has eight numbers for each square of the sheet, or more
unfoldable pub room_fault : (wide high room : ℕ) → Option Refusal
room_fault w h n = cond (nat_le (8 * (w * h)) n) None (Some (Room n))

-- the first of two that applies
abbrev pub first_of : Option Refusal → Option Refusal → Option Refusal
first_of (Some e) r = Some e
first_of None r = r

-- the first refusal that applies to a sheet, pieces and a room of so many numbers; none where all are taken
abbrev pub refusal : (wide high blade : ℕ) → List ℕ → (room : ℕ) → Option Refusal
refusal w h b xs n = first_of (sheet_fault w h b) (first_of (pieces_fault xs) (room_fault w h n))
