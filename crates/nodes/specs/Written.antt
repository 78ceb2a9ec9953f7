-- A way written out as nodes, and what is left of the room. Assumes nothing: these are definitions.
use Rattle.std.specs.Prelude.{◌≡◌, ℕ, ◌+◌, ◌*◌, ◌<◌, ◌≤◌, true, List, ◌++◌, length, take, drop, slice_index}
use Rattle.ways.specs.Nodes.{numbers_of, node_ok, size, way_at}
use Rattle.ways.specs.Sheet as sheet
use Rattle.ways.specs.Sheet.{Way, scrap, upright, level}
use Rattle.ways.specs.declared.nodes.Node.{Node}
use Rattle.ways.specs.declared.nodes.Node.TheVariants.{Scrap, Take, Saw}
use Rattle.ways.specs.declared.parts.Orientation.{Orientation}
use Rattle.ways.specs.declared.parts.Orientation.TheVariants.{Upright, Level}

-- a cut's node, which has number i: its first part's follow it, so many, and then its second part's
abbrev pub cut_node : Orientation → (i at first_size : ℕ) → Node ℕ
cut_node o i x n = Saw (record { orientation = o; at = x; first = i + 1; second = i + 1 + n })

-- the numbers of a way's nodes, of which the first has number i: its own, and then those of its first part and its second
unfoldable pub encode : (i : ℕ) → Way → List ℕ
encode i scrap = numbers_of Scrap
encode i (sheet.take k) = numbers_of (Take k)
encode i (upright x a b) = numbers_of (cut_node Upright i x (size a)) ++ (encode (i + 1) a ++ encode (i + 1 + size a) b)
encode i (level y a b) = numbers_of (cut_node Level i y (size a)) ++ (encode (i + 1) a ++ encode (i + 1 + size a) b)

-- what is left behind where n nodes are answered: they stand at the front of the room, and the rest is as it was; each names
-- later ones among them only; they are just the nodes of the way that the first one says, each followed by those of its parts;
-- and that way is as it is wanted
pub record Leaves (Wanted : Way → Type 0) (room : List ℕ) (n : ℕ) (room₁ : List ℕ) : Type 0 where
  pub some : 1 ≤ n
  pub within : 4 * n ≤ length room
  pub as_long : length room₁ ≡ length room
  pub past : (i : ℕ) → 4 * n ≤ i → slice_index room₁ i ≡ slice_index room i
  pub later : (i : ℕ) → i < n → node_ok room₁ n i ≡ true
  pub nodes : size (way_at room₁ n 0) ≡ n
  pub numbers : take (4 * n) room₁ ≡ encode 0 (way_at room₁ n 0)
  pub wanted : Wanted (way_at room₁ n 0)

-- a good way of a part stands at the front of what was lent for it, from node i on, and the rest is as it was
pub record Written (Good : Way → Type 0) (spare i : ℕ) (room : List ℕ) (n : ℕ) (room₁ : List ℕ) : Type 0 where
  pub way : Way
  pub good : Good way
  pub nodes : n ≡ size way
  pub few : n ≤ 1 + spare
  pub holds : room₁ ≡ encode i way ++ drop (4 * n) room
