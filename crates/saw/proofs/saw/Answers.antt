use Rattle.std.proofs.Common.{arith}
use Rattle.nodes.proofs.Left.{leaves_so}
use Rattle.saw.proofs.Scraps.{room_for_one, scrap_is_a_way, left_judged}
use Rattle.saw.proofs.saw.Goals as goal

pub write_way-nodes-requires : goal.write_way-nodes-requires
write_way-nodes-requires c = record { ready = tt; numbered = omega arith; enough = room_for_one _ _ _ _ _ _ c.in-Ok.ensures }

pub returns-in-Ok : goal.returns-in-Ok
returns-in-Ok c =
    let left = leaves_so _ _ _ _ _ (scrap_is_a_way _ _ _ _) c.write_way-nodes.ensures in
    record { done = rw c.in-Ok.ensures.taken left; judged = left_judged _ _ _ _ _ _ _ _ left }
