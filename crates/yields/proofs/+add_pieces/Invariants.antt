use Rattle.std.proofs.Common.{◌-◌, ◌/◌, length}
use Rattle.yields.proofs.+add_pieces.Given as goal

abbrev pub decreases-add_pieces : goal.decreases-add_pieces
decreases-add_pieces l = length l.numbers.now / 4 - l.i
