-- What holds of every blade, all pieces and sheets of every size. Assumes nothing: these are statements.
use Rattle.std.specs.Prelude.{◌≡◌, ℕ, ◌+◌, ◌-◌, ◌*◌, ◌≤◌, true, ◌⊎◌, List, ◌++◌}
use Rattle.ways.specs.Nodes.{size}
use Rattle.ways.specs.Sheet.{Way, upright, level, cut_ok, can, worth_of, Best}
use Rattle.ways.specs.declared.input.Piece.{Piece}
use Rattle.theorems.specs.Areas.{area_of}
use Rattle.theorems.specs.Turning.{turned, turned_way}

-- every sheet has a best way
abbrev pub HasBest : Type 0
HasBest = (blade : ℕ) (ps : List Piece) (w h : ℕ) → (a : Way) × Best blade ps w h a

-- the pieces of a way that can be sawn fill no more than the sheet
abbrev pub NoMoreThanThereIs : Type 0
NoMoreThanThereIs = (blade : ℕ) (ps : List Piece) (w h : ℕ) (a : Way) → can blade ps w h a ≡ true → area_of ps a ≤ w * h

-- a side is as long as another, or so long that the other can be sawn off it
abbrev pub AsLong : (blade side longer : ℕ) → Type 0
AsLong blade side longer = (longer ≡ side) ⊎ (cut_ok blade longer side ≡ true)

-- a sheet whose sides are so is worth no less
abbrev pub LargerSheet : Type 0
LargerSheet =
    (blade : ℕ) (ps : List Piece) (w h v g : ℕ) (a b : Way) → AsLong blade w v → AsLong blade h g → Best blade ps w h a → Best blade ps v g b →
    worth_of ps a ≤ worth_of ps b

-- and so is one that is larger each way by the blade and one more
abbrev pub LargerByTheBlade : Type 0
LargerByTheBlade =
    (blade : ℕ) (ps : List Piece) (w h v g : ℕ) (a b : Way) → 1 ≤ w → 1 ≤ h → w + (blade + 1) ≤ v → h + (blade + 1) ≤ g → Best blade ps w h a →
    Best blade ps v g b → worth_of ps a ≤ worth_of ps b

-- and so is one with more sorts of pieces
abbrev pub MoreSorts : Type 0
MoreSorts = (blade : ℕ) (ps qs : List Piece) (w h : ℕ) (a b : Way) → Best blade ps w h a → Best blade (ps ++ qs) w h b → worth_of ps a ≤ worth_of (ps ++ qs) b

-- a way that is turned can be sawn from the turned sheet with the pieces turned just where the way can, and is worth the same
abbrev pub Turned : Type 0
Turned =
    (blade : ℕ) (ps : List Piece) (w h : ℕ) (a : Way) →
    (can blade (turned ps) h w (turned_way a) ≡ can blade ps w h a) × (worth_of (turned ps) (turned_way a) ≡ worth_of ps a)

-- so a best way that is turned is a best way
abbrev pub TurnedBest : Type 0
TurnedBest = (blade : ℕ) (ps : List Piece) (w h : ℕ) (a : Way) → Best blade ps w h a → Best blade (turned ps) h w (turned_way a)

-- for a cut that leaves something on both sides there is one in the nearer half that can be sawn and is worth the same:
-- it, or its mirror
abbrev pub HalfOfUprights : Type 0
HalfOfUprights =
    (blade : ℕ) (ps : List Piece) (w h x : ℕ) (a b : Way) → can blade ps w h (upright x a b) ≡ true → 1 ≤ w - (x + blade) →
    (y : ℕ) × (c : Way) × (d : Way) × (y + (y + blade) ≤ w) × (can blade ps w h (upright y c d) ≡ true) × (worth_of ps (upright y c d) ≡ worth_of ps (upright x a b))

abbrev pub HalfOfLevels : Type 0
HalfOfLevels =
    (blade : ℕ) (ps : List Piece) (w h y : ℕ) (a b : Way) → can blade ps w h (level y a b) ≡ true → 1 ≤ h - (y + blade) →
    (z : ℕ) × (c : Way) × (d : Way) × (z + (z + blade) ≤ h) × (can blade ps w h (level z c d) ≡ true) × (worth_of ps (level z c d) ≡ worth_of ps (level y a b))

-- a way that can be sawn has fewer nodes than twice as many as the sheet has squares
abbrev pub FewNodes : Type 0
FewNodes = (blade : ℕ) (ps : List Piece) (w h : ℕ) (a : Way) → 1 ≤ w → 1 ≤ h → can blade ps w h a ≡ true → size a ≤ 2 * (w * h) - 1
