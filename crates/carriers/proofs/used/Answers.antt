-- `carriers::used` meets its contract.
use Rattle.base.proofs.Prelude.{rules}
use Rattle.carriers.specs.Band.{used_of}
use Rattle.carriers.proofs.used.Goals as goal

pub returns : goal.returns
unfolding used_of
returns c = search rules
