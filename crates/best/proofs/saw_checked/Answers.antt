use Rattle.best.proofs.Sawn.{asked_for}
use Rattle.best.proofs.saw_checked.Goals as goal

pub returns : goal.returns
returns c =
    let sheet = c.in_ok-sheet.ensures in let pieces = c.in_ok-pieces.ensures in
    asked_for _ _ _ _ _ _ _ c.in_ok-sheet.sheet _ sheet.0 sheet.1 sheet.2 sheet.3 pieces.0 pieces.1 c.saw_sheet.ensures
