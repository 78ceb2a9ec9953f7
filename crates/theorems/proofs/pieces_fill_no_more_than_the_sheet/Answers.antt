use Rattle.theorems.proofs.Filled.{no_more_than_there_is}
use Rattle.theorems.proofs.pieces_fill_no_more_than_the_sheet.Goals as goal

pub returns : goal.returns
returns c = no_more_than_there_is
