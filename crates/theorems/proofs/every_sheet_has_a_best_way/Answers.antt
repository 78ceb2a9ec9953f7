use Rattle.ways.proofs.Sawing.{has_best}
use Rattle.theorems.proofs.every_sheet_has_a_best_way.Goals as goal

pub returns : goal.returns
returns c = has_best
