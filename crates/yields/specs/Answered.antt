-- Where there is an answer of nodes, and of which way. Assumes nothing: these are definitions.
use Rattle.std.specs.Prelude.{ℕ, ◌/◌, List, length, Some, None, Option}
use Rattle.ways.specs.Nodes.{way_at}
use Rattle.ways.specs.Sheet.{Way}

-- there is an answer exactly where the nodes are a way that can be sawn, and then it is as it should be
abbrev pub Answered : {A : Type 0} → Option ℕ → (should : A → Type 0) → Option A → Type 0
Answered (Some v) should (Some r) = should r
Answered (Some v) should None = ⊥
Answered None should (Some r) = ⊥
Answered None should None = Unit {0}

-- the way that is judged: the one that the first node says
abbrev pub way_of : List ℕ → Way
way_of xs = way_at xs (length xs / 4) 0
