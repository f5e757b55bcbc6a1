-- `plan_read::zone_at` meets its contract: while its values are read, the rest gives what the whole gives.
use Rattle.plan_read.proofs.Step.{Valued}
use Rattle.plan_read.proofs.zone_at.Given as goal

abbrev pub invariant-loop-k : goal.invariant-loop-k
invariant-loop-k l = Valued 4 l.s l.at l.values l.next l.k
