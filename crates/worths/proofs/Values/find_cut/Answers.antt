use Rattle.worths.proofs.Found.{cut_beyond, cut_missing, cut_found}
use Rattle.worths.proofs.Values.find_cut.Goals as goal

pub returns-in_err-worth : goal.returns-in_err-worth
returns-in_err-worth c = rw c.from_residual-in_err-worth.ensures (cut_beyond _ _ _ c.in_err-worth.ensures)

pub returns-in_err-at : goal.returns-in_err-at
returns-in_err-at c =
    let place = c.in_ok-place.place in
    rw c.from_residual-in_err-at.ensures
    (cut_missing c.args.self.now c.args.orientation c.args.part place.part c.in_ok-place.ensures place.ok _ c.in_ok-worth.ensures c.in_err-at.ensures)

pub returns : goal.returns
returns c =
    let place = c.in_ok-place.place in
    cut_found c.args.self.now c.args.orientation c.args.part place.part c.in_ok-place.ensures place.ok _ c.in_ok-worth.ensures _ c.in_ok-at.ensures _
    (rw c.blade.ensures at c.sawn.ensures)
