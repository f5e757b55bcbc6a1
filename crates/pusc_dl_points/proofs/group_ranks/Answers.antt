use Rattle.base.proofs.{Prelude.{◌∙◌, arith}, Tabulate.{written_next, written_all}}
use Rattle.pusc_dl_points.proofs.Points.{lower_rank, rank_small}
use Rattle.pusc_dl_points.proofs.group_ranks.Goals as goal

pub overflow_cast-ranks : goal.overflow_cast-ranks
overflow_cast-ranks c =
    let own = lower_rank c.args.mask c.loop-g.g c.requires c.loop-g-test.true in
    omega (arith, c.lit_subchannels.ensures, rank_small c.args.mask c.loop-g.g c.loop-g-test.true)

pub loop-g-preserved : goal.loop-g-preserved
loop-g-preserved c =
    written_next c.loop-g.invariant c.loop-g-test.true _
    (c.lit_subchannels.ensures ∙ lower_rank c.args.mask c.loop-g.g c.requires c.loop-g-test.true)

pub returns : goal.returns
returns c = written_all c.loop-g.invariant c.loop-g-test.false
