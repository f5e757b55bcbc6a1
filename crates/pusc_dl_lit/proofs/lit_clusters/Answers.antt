use Rattle.base.proofs.{Tabulate.{written_next, written_all}}
use Rattle.pusc_dl_lit.proofs.{Lit.cluster-lit}
use Rattle.pusc_dl_lit.proofs.lit_clusters.Goals as goal

pub loop-p-preserved : goal.loop-p-preserved
loop-p-preserved c =
    written_next c.loop-p.invariant c.loop-p-test.true _
    (cluster-lit _ _ c.group_bits-once.ensures c.twice-bits.ensures c.args.cell c.args.mask c.loop-p.p c.requires.1 c.loop-p-test.true)

pub returns : goal.returns
returns c = written_all c.loop-p.invariant c.loop-p-test.false
