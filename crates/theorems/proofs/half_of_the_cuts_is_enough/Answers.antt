use Rattle.theorems.proofs.Mirrors.{half_of_uprights, half_of_levels}
use Rattle.theorems.proofs.half_of_the_cuts_is_enough.Goals as goal

pub returns : goal.returns
returns c = record { uprights = half_of_uprights; levels = half_of_levels }
