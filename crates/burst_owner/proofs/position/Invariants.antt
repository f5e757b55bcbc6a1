-- `burst_owner::position` meets its contract.
use Rattle.base.proofs.{First.{None}}
use Rattle.burst.specs.{Burst.{burst_at, is_covering}}
use Rattle.burst_owner.proofs.position.Given as goal

abbrev pub invariant-loop-i : goal.invariant-loop-i
invariant-loop-i l = None (λ k. is_covering (burst_at l.bursts k) l.slot l.subchannel) l.i
