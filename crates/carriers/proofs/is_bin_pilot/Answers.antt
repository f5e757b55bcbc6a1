-- `carriers::is_bin_pilot` meets its contract.
use Rattle.carriers.specs.Bin.{is_bin_pilot}
use Rattle.carriers.proofs.is_bin_pilot.Goals as goal

pub returns : goal.returns
unfolding is_bin_pilot
returns c = rw c.bin_pilot_place.ensures
