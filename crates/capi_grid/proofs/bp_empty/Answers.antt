-- `capi_grid::bp_empty` meets its contract.
use Rattle.capi_grid.proofs.bp_empty.Goals as goal

pub returns : goal.returns
returns c = rw c.number.ensures (rw c.setup-of.ensures at c.empty-answer.ensures)
