-- `ofusc_rows::table` meets its contract.
use Rattle.base.proofs.{Tabulate.{Written}}
use Rattle.ofusc_rows.specs.Model.{cell_number}
use Rattle.ofusc_rows.proofs.table.Given as goal

abbrev pub invariant-loop-k : goal.invariant-loop-k
invariant-loop-k l = Written 48 (cell_number l.fn.width.n l.cell) l.table l.k
