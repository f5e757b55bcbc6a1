-- `amc_rows::table` meets its contract.
use Rattle.base.proofs.{Prelude.{◌*◌}, Tabulate.{Written}}
use Rattle.amc_rows.specs.Model.{sequence_carrier}
use Rattle.amc_rows.proofs.table.Given as goal

abbrev pub invariant-loop-i : goal.invariant-loop-i
invariant-loop-i l = Written 48 (sequence_carrier l.shape l.n (l.slot * l.shape.symbols) l.cell 0) l.table l.i
