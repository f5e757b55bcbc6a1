-- `pusc_dl_rows::group_clusters` meets its contract.
use Rattle.base.proofs.{Tabulate.{Written}}
use Rattle.pusc_dl_rows.specs.Model.{group_cluster}
use Rattle.pusc_dl_rows.proofs.group_clusters.Given as goal

abbrev pub invariant-loop-i : goal.invariant-loop-i
invariant-loop-i l = Written 24 (group_cluster l.cell l.g) l.clusters l.i
