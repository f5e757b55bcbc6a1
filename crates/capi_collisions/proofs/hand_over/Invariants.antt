-- `capi_collisions::hand_over` meets its contract: the marks below k are written.
use Rattle.capi_collisions.proofs.Collision.{MarksWritten}
use Rattle.capi_collisions.proofs.hand_over.Given as goal

abbrev pub invariant-loop-k : goal.invariant-loop-k
invariant-loop-k l = MarksWritten l.marks l.k l.bytes
