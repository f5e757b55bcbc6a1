-- `pusc_dl_lit::lit_clusters` meets its contract.
use Rattle.base.proofs.{Tabulate.{Written}}
use Rattle.pusc_dl_lit.specs.Model.{cluster_lit}
use Rattle.pusc_dl_lit.proofs.lit_clusters.Given as goal

abbrev pub invariant-loop-p : goal.invariant-loop-p
invariant-loop-p l = Written 120 (cluster_lit l.cell l.mask) l.lit l.p
