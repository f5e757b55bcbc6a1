-- `capi_bursts::bp_burst_owner` meets its contract.
use Rattle.base.proofs.Prelude.{arith}
use Rattle.capi_bursts.specs.Burst.{owner_out}
use Rattle.capi_bursts.proofs.Burst.{owner_small, owner_no, or_none}
use Rattle.capi_bursts.proofs.bp_burst_owner.Goals as goal

pub overflow_cast-owner : goal.overflow_cast-owner
overflow_cast-owner c = let small = owner_small _ _ _ _ _ c.in-Ok.found c.in-Ok.ensures.said in rw (c.unwrap_or-position.ensures, or_none c.in-Ok.found.owner) (omega arith)

pub overflow_cast-looked : goal.overflow_cast-looked
overflow_cast-looked c = let small = owner_small _ _ _ _ _ c.in-Ok.found c.in-Ok.ensures.said in omega arith

pub returns-in-Ok : goal.returns-in-Ok
unfolding owner_out
returns-in-Ok c = rw (← c.zone-of.ensures, ← c.in-Ok.ensures.said, c.unwrap_or-position.ensures, or_none c.in-Ok.found.owner)

pub returns-in-Err : goal.returns-in-Err
returns-in-Err c = owner_no _ c.from.ensures _ _ (rw c.zone-of.ensures at c.in-Err.ensures.said)
