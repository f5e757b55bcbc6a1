-- `capi_bursts::bp_bursts_check` meets its contract.
use Rattle.capi_bursts.proofs.bp_bursts_check.Goals as goal

pub returns : goal.returns
returns c = rw c.number.ensures (rw c.zone-of.ensures at c.check-answer.ensures)
