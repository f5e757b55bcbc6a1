-- `amc_rows::bin_points` meets its contract.
use Rattle.base.proofs.{Prelude.{◌+◌}, Tabulate.{Written}}
use Rattle.base.specs.Steps.{entry}
use Rattle.amc_rows.proofs.bin_points.Given as goal

abbrev pub invariant-loop-j : goal.invariant-loop-j
invariant-loop-j l = Written 12 (λ k. l.start + entry l.indices (l.first + k)) l.points l.j
