-- `carriers::carrier` meets its contract.
use Rattle.base.proofs.{Prelude.{rules}}
use Rattle.carriers.specs.Band.{carrier_of}
use Rattle.carriers.proofs.carrier.Goals as goal

pub returns : goal.returns
unfolding carrier_of
returns c = search rules
