use Rattle.std.proofs.Common.{rules, arith}
use Rattle.ways.specs.Parts.{side_of}
use Rattle.ways.proofs.Cuts.{cut_ok_parts}
use Rattle.worths.proofs.Found.{value_said, value_missing}
use Rattle.best.proofs.Choosing.{some_found, none_found, within_sheet, good_scrap, good_take, good_sawn, some_cut}
use Rattle.best.proofs.Room.{spare_sawn}
use Rattle.best.proofs.table.ByTableChooser.choose.Goals as goal

pub unreachable-requires : goal.unreachable-requires
unreachable-requires g c = value_missing _ _ _ c.requires.narrow c.requires.low c.in_default.ensures

pub returns-in-Some-lies : goal.returns-in-Some-lies
returns-in-Some-lies g c =
    let u = c.args.self.now.uncut.now in let t = c.args.self.now.values.now in
    let said = value_said t c.args.part.wide c.args.part.high c.in-Some.worth c.in-Some.ensures in
    good_take (g.U.Uncut.reckoned u) _ _ t (g.met.U.Uncut.adds u t.sheet.blade) c.requires.right c.args.part c.requires.narrow c.requires.low _ (c.in-Some-lies.ensures t.sheet.blade)
    (omega (arith, said.2))

pub returns-in-None : goal.returns-in-None
returns-in-None g c =
    let u = c.args.self.now.uncut.now in let t = c.args.self.now.values.now in
    let said = value_said t c.args.part.wide c.args.part.high c.in-Some.worth c.in-Some.ensures in
    good_scrap (g.U.Uncut.reckoned u) _ _ t (g.met.U.Uncut.adds u t.sheet.blade) c.requires.right c.args.part c.requires.narrow c.requires.low (c.in-None.ensures t.sheet.blade)
    (omega (arith, said.2))

pub unreachable-requires-in-None-or_else : goal.unreachable-requires-in-None-or_else
unreachable-requires-in-None-or_else g c =
    let u = c.args.self.now.uncut.now in let t = c.args.self.now.values.now in
    let said = value_said t c.args.part.wide c.args.part.high c.in-Some.worth c.in-Some.ensures in
    let none = none_found t c.args.part c.find_cut-upright.result c.or_else.result c.find_cut-upright.ensures _ c.or_else.ensures (λ e. search rules) c.in-None-or_else.is in
    some_cut (g.U.Uncut.reckoned u) _ _ t (g.met.U.Uncut.adds u t.sheet.blade) c.requires.right c.args.part c.requires.narrow c.requires.low
    (λ e. c.if-worth-uncut_worth.false (omega (arith, said.2))) (g.met.U.Uncut.small u) none.0 none.1

pub returns : goal.returns
returns g c =
    let u = c.args.self.now.uncut.now in let t = c.args.self.now.values.now in
    let said = value_said t c.args.part.wide c.args.part.high c.in-Some.worth c.in-Some.ensures in
    let p = c.args.part in let cut = c.in-Some-or_else.cut in
    let any = some_found t p c.find_cut-upright.result c.or_else.result c.find_cut-upright.ensures _ c.or_else.ensures (λ e. search rules) cut c.in-Some-or_else.is in
    let found = any.1 in
    let ok = cut_ok_parts t.sheet.blade (side_of any.0 p.wide p.high) cut.at found.cuts.allowed in
    let near = within_sheet t p c.requires.narrow c.requires.low any.0 cut.first cut.at found.cuts.first ok.proper in
    let far = within_sheet t p c.requires.narrow c.requires.low any.0 cut.second _ found.cuts.second (omega (arith, ok.some, ok.fits)) in
    record {
      first_ready = record { right = c.requires.right; narrow = near.0; low = near.1 };
      second_ready = record { right = c.requires.right; narrow = far.0; low = far.1 };
      room = spare_sawn t.sheet.blade any.0 p cut.first cut.second cut.at ok found.cuts.first found.cuts.second;
      joins =
          good_sawn (g.U.Uncut.reckoned u) _ _ t (g.met.U.Uncut.adds u t.sheet.blade) c.requires.right p c.requires.narrow c.requires.low
          (λ e. c.if-worth-uncut_worth.false (omega (arith, said.2))) any.0 cut found;
    }
