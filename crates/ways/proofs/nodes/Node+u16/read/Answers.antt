use Rattle.std.proofs.Common.{◌∙◌, arith}
use Rattle.std.proofs.lemmas.Bool.Decides.{nat_tests}
use Rattle.ways.proofs.Fours.{past_the_last, read_there}
use Rattle.ways.proofs.nodes.Node+u16.read.Goals as goal

pub returns-in_err-get : goal.returns-in_err-get
returns-in_err-get c = c.from_residual.ensures ∙ past_the_last c.args.numbers.now c.args.i (grind (arith, nat_tests))

pub returns : goal.returns
returns c =
    let told = c.in_ok-get.ensures.lookup in
    c.ok.ensures.value ∙ read_there c.args.numbers.now c.in_ok-get.field-0.now _ c.args.i (grind (arith, nat_tests)) (rw c.as_chunks.ensures.front at told.1) _ c.try_from.ensures
