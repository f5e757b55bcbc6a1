-- `amc_rows::indices` meets its contract.
use Rattle.amc_rows.proofs.Points.{Indexed}
use Rattle.amc_rows.proofs.indices.Given as goal

abbrev pub invariant-loop-i : goal.invariant-loop-i
invariant-loop-i l = Indexed l.cell l.indices l.i
