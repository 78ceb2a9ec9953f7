-- What is asked of whoever chooses what is done with each part. Assumes nothing: these are definitions.
use Rattle.std.specs.Prelude.{ℕ, ◌+◌, ◌≤◌}
use Rattle.ways.specs.Parts.{sawn}
use Rattle.ways.specs.Sheet.{Way, scrap, take}
use Rattle.ways.specs.declared.nodes.Node.{Node}
use Rattle.ways.specs.declared.nodes.Node.TheVariants.{Scrap, Take, Saw}

-- a part may be sawn into two others: each of them may be asked for, there is room for their nodes besides that of the cut, and
-- whatever good ways they have, together these are a good way of the whole
pub record SawnInto {P : Type 0} (ready : P → Type 0) (spare : P → ℕ) (good : P → Way → Type 0) (part first second : P) (join : Way → Way → Way) : Type 0 where
  pub first_ready : ready first
  pub second_ready : ready second
  pub room : 2 + (spare first + spare second) ≤ spare part
  pub joins : (a b : Way) → good first a → good second b → good part (join a b)

-- scrap and a piece are chosen where they are good as they are, and a cut where the part may be sawn so
abbrev pub Fair : {P : Type 0} → (ready : P → Type 0) → (spare : P → ℕ) → (good : P → Way → Type 0) → (part : P) → Node P → Type 0
Fair ready spare good part Scrap = good part scrap
Fair ready spare good part (Take k) = good part (take k)
Fair ready spare good part (Saw c) = SawnInto ready spare good part c.first c.second (sawn c.orientation c.at)
