-- `carriers::data_of_used` meets its contract.
use Rattle.carriers.specs.Bin.{data_of_used}
use Rattle.carriers.proofs.data_of_used.Goals as goal

pub returns : goal.returns
unfolding data_of_used
returns c = rw (c.unskip.ensures.0, c.bin_pilot_place.ensures)
