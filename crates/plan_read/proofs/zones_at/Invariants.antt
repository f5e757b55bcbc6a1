-- `plan_read::zones_at` meets its contract: while zones are read, the rest gives what the whole gives.
use Rattle.plan_read.proofs.Step.{Reading}
use Rattle.plan_read.proofs.zones_at.Given as goal

abbrev pub invariant-loop-k : goal.invariant-loop-k
invariant-loop-k l = Reading l.bytes l.at l.count l.size l.zones l.prior l.next l.k
