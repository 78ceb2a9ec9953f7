use Rattle.std.proofs.Common.{length, ap, arith}
use Rattle.std.proofs.lemmas.List.{length-take}
use Rattle.worths.proofs.Fitting.{lies_fitting}
use Rattle.worths.proofs.lies.PiecesLying.lies.Goals as goal

pub which_piece-requires : goal.which_piece-requires
which_piece-requires c = let s = c.args.self.now in omega (arith, ap length c.as_slice.ensures, length-take s.count s.list, s.few)

pub returns : goal.returns
returns c blade = lies_fitting _ _ _ _ _ c.as_slice.ensures c.which_piece.ensures
