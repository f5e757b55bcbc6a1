-- `capi_collisions::bp_ofusc_collisions` meets its contract.
use Rattle.capi_collisions.proofs.{Collision.ofusc_whole}
use Rattle.capi_collisions.proofs.bp_ofusc_collisions.Goals as goal

pub hand_over-requires : goal.hand_over-requires
hand_over-requires c = rw c.ofusc-answer.ensures (ofusc_whole _ _ _ _ _)

pub returns : goal.returns
returns c = rw c.ofusc-answer.ensures at c.hand_over.ensures
