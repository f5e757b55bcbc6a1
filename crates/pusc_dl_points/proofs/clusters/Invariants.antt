-- `pusc_dl_points::clusters` meets its contract.
use Rattle.base.proofs.{Tabulate.{Written}}
use Rattle.pusc_dl_points.specs.Model.{cluster_entry}
use Rattle.pusc_dl_points.proofs.clusters.Given as goal

abbrev pub invariant-loop-p : goal.invariant-loop-p
invariant-loop-p l = Written 120 (cluster_entry l.cell l.mask) l.clusters l.p
