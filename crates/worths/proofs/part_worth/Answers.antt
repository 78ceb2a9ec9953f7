use Rattle.std.proofs.Common.{arith}
use Rattle.ways.specs.declared.parts.Orientation.TheVariants.{Upright, Level}
use Rattle.worths.specs.Cuts.{part_of}
use Rattle.worths.proofs.Parts.{parts_low, most_of}
use Rattle.worths.proofs.part_worth.Goals as goal

pub best_cut-upright-requires : goal.best_cut-upright-requires
best_cut-upright-requires g c =
    let u = c.args.uncut.now in let t = c.args.values.now in
    parts_low _ _ t.sheet.blade _ (g.met.U.Uncut.adds u t.sheet.blade) c.args.place.part (λ o x. part_of o t.cells c.args.place.part x) c.requires (g.met.U.Uncut.small u) (omega arith) (omega arith) Upright

pub best_cut-requires : goal.best_cut-requires
best_cut-requires g c =
    let u = c.args.uncut.now in let t = c.args.values.now in
    parts_low _ _ t.sheet.blade _ (g.met.U.Uncut.adds u t.sheet.blade) c.args.place.part (λ o x. part_of o t.cells c.args.place.part x) c.requires (g.met.U.Uncut.small u) (omega arith) (omega arith) Level

pub returns : goal.returns
returns g c =
    let u = c.args.uncut.now in let t = c.args.values.now in
    most_of _ _ t.sheet.blade _ (g.met.U.Uncut.adds u t.sheet.blade) c.args.place.part (λ o x. part_of o t.cells c.args.place.part x) c.requires _ _ (rw c.uncut_worth-whole.ensures at c.best_cut-upright.ensures) c.best_cut.ensures
