use Rattle.std.proofs.Common.{refl, arith}
use Rattle.ways.specs.Nodes.{size}
use Rattle.ways.specs.Parts.{sawn}
use Rattle.ways.specs.Sheet.{scrap, take}
use Rattle.nodes.specs.Written.{encode}
use Rattle.nodes.proofs.Lent.{size_sawn, cut_written}
use Rattle.nodes.proofs.+write_from.Goals as goal

pub returns-in-Scrap : goal.returns-in-Scrap
unfolding encode size
returns-in-Scrap g t c = record { way = scrap; good = c.in-Scrap.ensures; nodes = refl; few = omega arith; holds = c.put_node.ensures }

pub returns-in-Take : goal.returns-in-Take
unfolding encode size
returns-in-Take g t c = record { way = take c.in-Take.piece; good = c.in-Take.ensures; nodes = refl; few = omega arith; holds = c.put_node-in-Take.ensures }

pub returns-in-Saw : goal.returns-in-Saw
returns-in-Saw g t c =
    let l = c.write_from-near.ensures in let r = c.write_from-far.ensures in let d = c.in-Saw.ensures in let cut = c.in-Saw.cut in
    record {
      way = sawn cut.orientation cut.at l.way r.way;
      good = d.joins l.way r.way l.good r.good;
      nodes = omega (arith, l.nodes, r.nodes, size_sawn cut.orientation cut.at l.way r.way);
      few = omega (arith, d.room, l.few, r.few);
      holds =
          cut_written cut.orientation cut.at c.args.i c.write_from-near.result c.write_from-far.result l.way r.way l.nodes _ _ _ _ _ _
          c.args.room.now c.write_from-near.new.room c.write_from-far.new.room c.put_node-in-Saw.new.room
          (omega (arith, d.room, l.few)) (grind arith) (grind arith) (grind arith) (grind arith) refl l.holds refl r.holds c.put_node-in-Saw.ensures;
    }
