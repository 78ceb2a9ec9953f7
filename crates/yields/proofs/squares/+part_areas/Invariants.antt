use Rattle.std.proofs.Common.{◌+◌}
use Rattle.yields.proofs.squares.+part_areas.Given as goal

abbrev pub decreases-part_areas : goal.decreases-part_areas
decreases-part_areas l = l.part.wide + l.part.high
