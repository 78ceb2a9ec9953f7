use Rattle.nodes.proofs.+write_from.Given as goal

abbrev pub decreases-write_from : goal.decreases-write_from
decreases-write_from g l = g.C.Chooser.spare l.chooser.now l.part
