-- `formulas::bin_spot` meets its contract.
use Rattle.formulas.proofs.bin_spot.Goals as goal

pub returns : goal.returns
returns c = rw c.used_of_data.ensures
