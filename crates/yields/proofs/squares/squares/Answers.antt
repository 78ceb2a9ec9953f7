use Rattle.std.proofs.Common.{refl, mul-le-mul}
use Rattle.yields.proofs.squares.squares.Goals as goal

pub returns : goal.returns
returns c = record { all = refl; few = mul-le-mul c.requires.0 c.requires.1 }
