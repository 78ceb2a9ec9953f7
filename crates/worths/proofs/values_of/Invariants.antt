use Rattle.std.proofs.Common.{◌≡◌, length}
use Rattle.worths.proofs.Filling.{Narrower, Lower}
use Rattle.worths.proofs.values_of.Given as goal

abbrev pub invariant-loop-wide : goal.invariant-loop-wide
invariant-loop-wide g l =
    (l.values.sheet ≡ l.sheet) × (length l.values.cells ≡ 3600)
    × Narrower (g.U.Uncut.reckoned l.uncut) (g.U.Uncut.pieces l.uncut) l.sheet.high l.wide l.values

abbrev pub invariant-loop-high : goal.invariant-loop-high
invariant-loop-high g l =
    (l.values.sheet ≡ l.sheet) × (length l.values.cells ≡ 3600)
    × Narrower (g.U.Uncut.reckoned l.uncut) (g.U.Uncut.pieces l.uncut) l.sheet.high l.wide l.values
    × Lower (g.U.Uncut.reckoned l.uncut) (g.U.Uncut.pieces l.uncut) l.wide l.high l.values
