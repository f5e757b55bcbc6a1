-- `pilot_list::is_pilot` meets its contract.
use Rattle.base.proofs.{Prelude.{eqb, length}, First.{Asking}}
use Rattle.base.specs.Steps.{entry}
use Rattle.pilot_list.proofs.is_pilot.Given as goal

abbrev pub invariant-loop-pilot : goal.invariant-loop-pilot
invariant-loop-pilot l = Asking (λ k. eqb (entry l.pilots k) l.used) (length l.pilots) l.found l.pilot-index
