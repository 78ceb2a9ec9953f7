use Rattle.theorems.proofs.Nodes.{few_nodes}
use Rattle.theorems.proofs.ways_have_few_nodes.Goals as goal

pub returns : goal.returns
returns c = few_nodes
