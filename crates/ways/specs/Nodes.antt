-- A way as nodes of four numbers each. Assumes nothing: these are definitions.
use Rattle.std.specs.Prelude.{ℕ, zero, suc, ◌+◌, ◌*◌, Bool, true, false, cond, ◌&&◌, List, [], ◌∷◌, length, Some, None, Option, Ok, Err, Result, ◌≡◌, ◌==◌, nat_le, nat_lt, slice_index}
use Rattle.ways.specs.Parts.{sawn}
use Rattle.ways.specs.Sheet.{Way, scrap, take, upright, level}
use Rattle.ways.specs.declared.nodes.Node.{Node}
use Rattle.ways.specs.declared.nodes.Node.TheVariants.{Scrap, Take, Saw}
use Rattle.ways.specs.declared.nodes.UnknownKind.{UnknownKind}
use Rattle.ways.specs.declared.parts.Orientation.{Orientation}
use Rattle.ways.specs.declared.parts.Orientation.TheVariants.{Upright, Level}

-- the number for an upright cut, and for a level one
abbrev pub kind_of : Orientation → ℕ
kind_of Upright = 2
kind_of Level = 3

-- the four numbers of a node: 0 scrap; 1 and a piece's number; 2, so many from the left, and the nodes of the left part and
-- the right; 3, so many from below, and the nodes of the lower part and the upper
abbrev pub numbers_of : Node ℕ → List ℕ
numbers_of Scrap = 0 ∷ 0 ∷ 0 ∷ 0 ∷ []
numbers_of (Take k) = 1 ∷ k ∷ 0 ∷ 0 ∷ []
numbers_of (Saw c) = kind_of c.orientation ∷ c.at ∷ c.first ∷ c.second ∷ []

-- the node that four numbers stand for; numbers that it doesn't need are of no matter, and there is no kind above 3
unfoldable pub node_from : (kind x a b : ℕ) → Option (Node ℕ)
node_from kind x a b =
    cond (kind == 0) (Some Scrap) (cond (kind == 1) (Some (Take x)) (cond (kind == 2) (Some (cut Upright)) (cond (kind == 3) (Some (cut Level)) None))) where
      cut : Orientation → Node ℕ
      cut o = Saw (record { orientation = o; at = x; first = a; second = b })

-- what is read of four numbers: that node, or that the first of them is no kind
abbrev pub Reads : List ℕ → Result (Node ℕ) UnknownKind → Type 0
Reads xs (Ok node) = node_from (slice_index xs 0) (slice_index xs 1) (slice_index xs 2) (slice_index xs 3) ≡ Some node
Reads xs (Err e) = (node_from (slice_index xs 0) (slice_index xs 1) (slice_index xs 2) (slice_index xs 3) ≡ None) × (e.0 ≡ slice_index xs 0)

-- node i of a list of numbers in fours, if it is there
unfoldable pub node_at : List ℕ → (i : ℕ) → Option (Node ℕ)
node_at xs i = cond (nat_le (4 * i + 4) (length xs)) (node_from (slice_index xs (4 * i)) (slice_index xs (4 * i + 1)) (slice_index xs (4 * i + 2)) (slice_index xs (4 * i + 3))) None

-- a node, with what is said from the nodes that it names
unfoldable pub way_from : (ℕ → Way) → Option (Node ℕ) → Way
way_from part None = scrap
way_from part (Some Scrap) = scrap
way_from part (Some (Take k)) = take k
way_from part (Some (Saw c)) = sawn c.orientation c.at (part c.first) (part c.second)

-- the way that the numbers say from node i on, read so many levels deep
unfoldable pub way_at : List ℕ → (levels i : ℕ) → Way
way_at xs zero i = scrap
way_at xs (suc l) i = way_from (way_at xs l) (node_at xs i)

-- node j comes after node i, and is among the first n
abbrev pub comes_later : (n i j : ℕ) → Bool
comes_later n i j = nat_lt i j && nat_lt j n

-- node i names only such nodes
abbrev pub all_later : (n i : ℕ) → Option (Node ℕ) → Bool
all_later n i None = false
all_later n i (Some Scrap) = true
all_later n i (Some (Take k)) = true
all_later n i (Some (Saw c)) = comes_later n i c.first && comes_later n i c.second

-- node i is there, is of one of the four kinds, and names only nodes that come after it, among the first n
unfoldable pub node_ok : List ℕ → (n i : ℕ) → Bool
node_ok xs n i = all_later n i (node_at xs i)

-- how many nodes a way has
unfoldable pub size : Way → ℕ
size scrap = 1
size (take k) = 1
size (upright x a b) = suc (size a + size b)
size (level y a b) = suc (size a + size b)
