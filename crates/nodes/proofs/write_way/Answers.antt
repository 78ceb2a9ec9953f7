use Rattle.std.proofs.Common.{arith}
use Rattle.nodes.proofs.Left.{leaves}
use Rattle.nodes.proofs.write_way.Goals as goal

pub returns : goal.returns
returns g c = leaves _ _ _ _ _ c.write_from.ensures (omega (arith, c.write_from.ensures.few))
