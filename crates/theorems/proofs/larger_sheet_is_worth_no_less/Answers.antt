use Rattle.theorems.proofs.Larger.{larger_sheet, larger_by_the_blade}
use Rattle.theorems.proofs.larger_sheet_is_worth_no_less.Goals as goal

pub returns : goal.returns
returns c = record { off = larger_sheet; blade = larger_by_the_blade }
