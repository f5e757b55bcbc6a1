-- `burst_owner::first_owner` meets its contract.
use Rattle.burst_owner.proofs.Row.{owner_some, owner_none}
use Rattle.burst_owner.proofs.first_owner.Goals as goal

pub returns-then-i-count : goal.returns-then-i-count
returns-then-i-count c = record { said = owner_some _ _ _ c.position-i.ensures c.if-i-count.true; in_list = c.if-i-count.true }

pub returns : goal.returns
returns c = record { said = owner_none _ _ _ c.position-i.ensures c.if-i-count.false; in_list = tt }
