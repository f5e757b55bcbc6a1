-- `carriers::used_of_data` meets its contract.
use Rattle.carriers.specs.Bin.{used_of_data}
use Rattle.carriers.proofs.used_of_data.Goals as goal

pub returns : goal.returns
unfolding used_of_data
returns c = rw (c.skip.ensures.0, c.bin_pilot_place.ensures)
