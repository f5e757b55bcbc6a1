-- `plan_numbers::places` meets its contract.
use Rattle.plan_numbers.proofs.Laws.{Placing}
use Rattle.plan_numbers.proofs.places.Given as goal

abbrev pub invariant-loop-k : goal.invariant-loop-k
invariant-loop-k l = Placing l.numbers l.zones l.k
