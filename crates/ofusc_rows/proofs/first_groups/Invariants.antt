-- `ofusc_rows::first_groups` meets its contract.
use Rattle.base.proofs.Tabulate.{Written}
use Rattle.ofusc_rows.specs.Model.{cell_number}
use Rattle.ofusc_rows.proofs.first_groups.Given as goal

abbrev pub invariant-loop-k : goal.invariant-loop-k
invariant-loop-k l = Written 48 (cell_number l.width.n l.cell) l.table l.k
