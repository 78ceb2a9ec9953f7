-- What nodes are judged to be: a way that can be sawn, and its worth, or not. Assumes nothing: these are definitions.
use Rattle.std.specs.Prelude.{ℕ, zero, suc, ◌/◌, Bool, true, false, cond, ◌&&◌, List, length, Some, None, Option}
use Rattle.ways.specs.Sheet.{can, worth_of}
use Rattle.ways.specs.declared.input.Piece.{Piece}
use Rattle.ways.specs.Nodes.{node_at, node_ok, way_at}
use Rattle.ways.specs.declared.nodes.Node.{Node}
use Rattle.ways.specs.declared.nodes.Node.TheVariants.{Scrap, Take, Saw}

-- there is a node, and those that it names are so
unfoldable pub both_parts : (ℕ → Bool) → Option (Node ℕ) → Bool
both_parts ok None = false
both_parts ok (Some Scrap) = true
both_parts ok (Some (Take k)) = true
both_parts ok (Some (Saw c)) = ok c.first && ok c.second

-- every node that is reached from node i on, within so many levels, names later ones among the first n only
unfoldable pub sound : List ℕ → (n levels i : ℕ) → Bool
sound xs n zero i = false
sound xs n (suc l) i = node_ok xs n i && both_parts (sound xs n l) (node_at xs i)

-- what a part so wide and so high is worth, sawn as node i says; none where it can't be sawn so
unfoldable pub worth_from : (blade : ℕ) → List Piece → List ℕ → (n levels i wide high : ℕ) → Option ℕ
worth_from blade ps xs n l i w h = cond (sound xs n l i && can blade ps w h (way_at xs l i)) (Some (worth_of ps (way_at xs l i))) None

-- what is said of a list of numbers: its first node is the way, and it is worth so much; none where it is no way that can be sawn.
-- Where each node names later ones only, as many levels as there are nodes reach all of it
unfoldable pub judged : (blade : ℕ) → List Piece → (wide high : ℕ) → List ℕ → Option ℕ
judged blade ps w h xs = worth_from blade ps xs (length xs / 4) (length xs / 4) 0 w h
