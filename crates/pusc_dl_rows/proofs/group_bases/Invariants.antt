-- `pusc_dl_rows::group_bases` meets its contract.
use Rattle.base.proofs.{Prelude.{◌+◌}, Tabulate.{Written}}
use Rattle.clusters.specs.Model.{turned_base}
use Rattle.pusc_dl_rows.proofs.group_bases.Given as goal

abbrev pub invariant-loop-n : goal.invariant-loop-n
invariant-loop-n l = Written 24 (λ n. turned_base l.g l.cell (l.s + n)) l.bases l.n
