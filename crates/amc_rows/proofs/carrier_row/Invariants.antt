-- `amc_rows::carrier_row` meets its contract.
use Rattle.base.proofs.{Prelude.{◌+◌}, Tabulate.{Written}}
use Rattle.base.specs.Steps.{entry}
use Rattle.amc_rows.proofs.carrier_row.Given as goal

abbrev pub invariant-loop-i : goal.invariant-loop-i
invariant-loop-i l = Written 48 (λ k. entry l.table k + l.step) l.row l.i
