-- `capi_grid::bp_empty_first` meets its contract.
use Rattle.capi_grid.proofs.bp_empty_first.Goals as goal

pub returns : goal.returns
returns c = rw c.number.ensures (rw c.setup-of.ensures at c.empty_first-answer.ensures)
