-- A way of a sheet has few nodes. Assumes nothing.
use Rattle.std.proofs.Common.{◌≡◌, max, arith}
use Rattle.ways.proofs.Few.{few}
use Rattle.theorems.specs.Statements.{FewNodes}

pub few_nodes : FewNodes
few_nodes blade ps w h a wide high e =
    let some_wide : max 1 w ≡ w = omega arith in
    let some_high : max 1 h ≡ h = omega arith in
    let f = rw (some_wide, some_high) at (few blade ps w h a e) in
    omega arith
