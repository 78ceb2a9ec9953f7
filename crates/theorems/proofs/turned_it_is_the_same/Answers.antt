use Rattle.theorems.proofs.Quarter.{turned_same, turned_best}
use Rattle.theorems.proofs.turned_it_is_the_same.Goals as goal

pub returns : goal.returns
returns c = record { ways = turned_same; best = turned_best }
