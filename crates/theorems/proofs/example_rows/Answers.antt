use Rattle.theorems.proofs.Known.{two_doors, just_it, a_strip_off}
use Rattle.theorems.proofs.example_rows.Goals as goal

pub returns : goal.returns
returns c = record { doors = two_doors; piece = just_it; strip = a_strip_off }
