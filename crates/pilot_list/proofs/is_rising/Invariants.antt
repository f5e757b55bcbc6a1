-- `pilot_list::is_rising` meets its contract.
use Rattle.base.proofs.{Prelude.{◌+◌, leb}, First.{Asking}}
use Rattle.base.specs.Steps.{entry}
use Rattle.pilot_list.proofs.is_rising.Given as goal

abbrev pub invariant-loop-i : goal.invariant-loop-i
invariant-loop-i l = Asking (λ k. leb (entry l.pilots (k + 1)) (entry l.pilots k)) 165 l.falls l.i
