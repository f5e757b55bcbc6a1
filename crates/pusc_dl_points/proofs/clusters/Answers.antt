use Rattle.base.proofs.{Prelude.{ap, ◌∙◌}, Tabulate.{written_next}}
use Rattle.pusc_dl_points.specs.Model.{logical_entry, cluster_entry}
use Rattle.pusc_dl_points.proofs.clusters.Goals as goal

pub loop-p-preserved : goal.loop-p-preserved
unfolding cluster_entry
loop-p-preserved c =
    written_next c.loop-p.invariant c.loop-p-test.true _
    (c.logical_entry.ensures ∙ ap (logical_entry _) c.renumber-logical.ensures.0)
