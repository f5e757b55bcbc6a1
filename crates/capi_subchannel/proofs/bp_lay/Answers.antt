-- `capi_subchannel::bp_lay` meets its contract.
use Rattle.capi_subchannel.proofs.bp_lay.Goals as goal

pub returns : goal.returns
returns c = rw c.number.ensures (rw c.setup-of.ensures at c.lay-answer.ensures)
