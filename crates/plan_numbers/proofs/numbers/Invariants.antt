-- `plan_numbers::numbers` meets its contract.
use Rattle.plan_numbers.proofs.Laws.{Row}
use Rattle.plan_numbers.proofs.numbers.Given as goal

abbrev pub invariant-loop-k : goal.invariant-loop-k
invariant-loop-k l = Row l.zones l.numbers l.k
