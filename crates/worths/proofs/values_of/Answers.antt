use Rattle.std.proofs.Common.{ℕ, replicate, refl, ◌∙◌, arith, length-set}
use lib.ListN.{length-replicate}
use Rattle.worths.specs.Table.{place_of}
use Rattle.worths.proofs.Filling.{smaller_done, narrower_none, lower_none, narrower_more, narrower_kept, lower_more}
use Rattle.worths.proofs.values_of.Goals as goal

pub loop-wide-init : goal.loop-wide-init
loop-wide-init g c =
    let u = c.args.uncut.now in let met = g.met.U.Uncut in let s = c.args.sheet in (
      refl,
      length-replicate {A = ℕ} 3600 0,
      narrower_none (g.U.Uncut.reckoned u) _ _ (record { sheet = s; cells = replicate 3600 0 }) (met.adds u s.blade) (met.small u) _,
    )

pub loop-high-init : goal.loop-high-init
loop-high-init g c =
    let u = c.args.uncut.now in let met = g.met.U.Uncut in let t = c.loop-wide.values in let inv = c.loop-wide.invariant in
    (inv.0, inv.1, inv.2, lower_none (g.U.Uncut.reckoned u) _ _ t (met.adds u t.sheet.blade) (met.small u) _)

pub part_worth-worth-requires : goal.part_worth-worth-requires
part_worth-worth-requires g c =
    let inv = c.loop-high.invariant in
    smaller_done (g.U.Uncut.reckoned c.args.uncut.now) _ _ _ _ c.loop-high.values (omega arith) inv.2 inv.3

pub loop-high-preserved : goal.loop-high-preserved
loop-high-preserved g c =
    let r = g.U.Uncut.reckoned c.args.uncut.now in let t = c.loop-high.values in let v = c.part_worth-worth.result in let inv = c.loop-high.invariant in
    rw c.index.ensures (
      inv.0,
      length-set t.cells (place_of c.loop-wide.wide c.loop-high.high) v ∙ inv.1,
      narrower_kept r _ c.args.sheet.high c.loop-wide.wide c.loop-high.high t v (omega arith) (omega arith) (omega arith) (omega arith) inv.2,
      lower_more r _ c.args.sheet.high c.loop-wide.wide c.loop-high.high t v (omega arith) (omega arith) (omega arith) (omega arith) (omega arith) inv.3 c.part_worth-worth.ensures,
    )

pub loop-wide-preserved : goal.loop-wide-preserved
loop-wide-preserved g c =
    let inv = c.loop-high.invariant in
    (inv.0, inv.1, narrower_more (g.U.Uncut.reckoned c.args.uncut.now) _ _ _ _ c.loop-high.values (omega arith) inv.2 inv.3)

pub returns : goal.returns
returns g c =
    let inv = c.loop-wide.invariant in
    record { sheet = inv.0; values = λ w h p q. let narrow = rw inv.0 at p in inv.2 w h (omega arith) (rw inv.0 at q) }
