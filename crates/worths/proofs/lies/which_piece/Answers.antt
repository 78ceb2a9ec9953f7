use Rattle.std.proofs.Common.{◌≡◌, ◌∙◌, rules, tests}
use Rattle.std.proofs.lemmas.Iterator.{YieldsList-from_slice}
use Rattle.std.proofs.lemmas.Iterator.Search.{position_from_yields_List}
use Rattle.worths.proofs.Fitting.{wanted, fitting}
use Rattle.worths.proofs.lies.which_piece.Goals as goal

pub returns : goal.returns
returns c =
    let ps = c.args.pieces.now in let w = c.args.part.wide in let h = c.args.part.high in let v = c.best_piece-best.result in
    let first = position_from_yields_List (wanted w h v) _ _ c.position.result c.position.ensures.ran (YieldsList-from_slice ps c.iter.ensures.rest) (λ x b q k. search (rules, tests)) in
    let same : c.map.result ≡ c.position.result = search (rules, tests) in
    fitting ps w h v c.best_piece-best.ensures c.if-best-eq0.false _ (same ∙ first)
