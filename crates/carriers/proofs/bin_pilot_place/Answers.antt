-- `carriers::bin_pilot_place` meets its contract.
use Rattle.base.proofs.Prelude.{rules}
use Rattle.carriers.specs.Bin.{bin_pilot_place}
use Rattle.carriers.proofs.bin_pilot_place.Goals as goal

pub returns : goal.returns
unfolding bin_pilot_place
returns c = search rules
