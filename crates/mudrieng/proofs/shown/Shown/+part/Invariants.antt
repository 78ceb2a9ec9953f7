use Rattle.std.proofs.Common.{◌-◌, ◌/◌, length}
use Rattle.mudrieng.proofs.shown.Shown.+part.Given as goal

abbrev pub decreases-part : goal.decreases-part
decreases-part g l = length l.self.now.nodes.now / 4 - l.i
