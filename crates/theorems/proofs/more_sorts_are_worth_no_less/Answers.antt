use Rattle.theorems.proofs.Larger.{more_sorts}
use Rattle.theorems.proofs.more_sorts_are_worth_no_less.Goals as goal

pub returns : goal.returns
returns c = more_sorts
