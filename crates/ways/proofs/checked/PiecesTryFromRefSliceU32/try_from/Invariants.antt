use Rattle.std.proofs.Common.{take}
use Rattle.ways.proofs.Threes.{SoFar}
use Rattle.ways.proofs.checked.PiecesTryFromRefSliceU32.try_from.Given as goal

abbrev pub invariant-loop-three : goal.invariant-loop-three
invariant-loop-three l = SoFar l.numbers l.three-index l.pieces.count (take l.pieces.count l.pieces.list)
