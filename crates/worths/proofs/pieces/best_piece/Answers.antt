use Rattle.std.proofs.Common.{sym, ap, ◌∙◌, rules, tests}
use Rattle.std.proofs.lemmas.Iterator.{YieldsList-from_slice, YieldsList-from_map}
use Rattle.std.proofs.lemmas.Iterator.Adapters.{option_map_id}
use Rattle.std.proofs.lemmas.Iterator.Consumers.{YieldsList-at, YieldsList-from_filter, max_from_yields_List}
use Rattle.std.specs.Option.{unwrap_or}
use Rattle.worths.proofs.Fitting.{fits, best_of_fitting}
use Rattle.worths.proofs.pieces.best_piece.Goals as goal

pub returns : goal.returns
returns c =
    let ps = c.args.pieces.now in let w = c.args.part.wide in let h = c.args.part.high in
    let most = max_from_yields_List _ c.max.result c.max.ensures.ran
    (YieldsList-from_map _ (λ p. p.worth)
    (YieldsList-at c.map.ensures.source
    (YieldsList-from_filter _ (fits w h) (YieldsList-at c.filter.ensures.source (YieldsList-from_slice ps c.iter.ensures.rest)) c.filter.ensures.closure
    (λ x b q k. search (rules, tests))))
    c.map.ensures.closure (λ x r q k. search rules)) in
    c.unwrap_or.ensures ∙ ap (λ r. unwrap_or r 0) (sym (option_map_id _) ∙ most) ∙ best_of_fitting ps w h
