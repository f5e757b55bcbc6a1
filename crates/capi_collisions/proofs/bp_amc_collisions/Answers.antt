-- `capi_collisions::bp_amc_collisions` meets its contract.
use Rattle.capi_collisions.proofs.{Collision.amc_whole}
use Rattle.capi_collisions.proofs.bp_amc_collisions.Goals as goal

pub hand_over-requires : goal.hand_over-requires
hand_over-requires c = rw c.amc-answer.ensures (amc_whole _ _)

pub returns : goal.returns
returns c = rw c.amc-answer.ensures at c.hand_over.ensures
