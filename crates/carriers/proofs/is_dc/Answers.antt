-- `carriers::is_dc` meets its contract.
use Rattle.base.proofs.Prelude.{rules}
use Rattle.carriers.specs.Band.{is_dc}
use Rattle.carriers.proofs.is_dc.Goals as goal

pub returns : goal.returns
unfolding is_dc
returns c = search rules
