-- `carriers::carrier_row` meets its contract.
use Rattle.base.proofs.{Prelude.{◌+◌, ◌%◌, leb}}
use Rattle.base.proofs.Tabulate.{Written}
use Rattle.base.specs.{Choice.pick, Steps.entry}
use Rattle.carriers.proofs.carrier_row.Given as goal

abbrev pub invariant-loop-k : goal.invariant-loop-k
invariant-loop-k l = Written 48 (λ j. entry l.spots j + l.left + pick (leb l.half (entry l.spots j % 2048)) 1 0) l.row l.k
