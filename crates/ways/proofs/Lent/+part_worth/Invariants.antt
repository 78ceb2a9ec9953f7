use Rattle.std.proofs.Common.{◌+◌}
use Rattle.ways.proofs.Lent.+part_worth.Given as goal

abbrev pub decreases-part_worth : goal.decreases-part_worth
decreases-part_worth l = l.part.wide + l.part.high
