-- `modes::width` meets its contract.
use Rattle.base.proofs.Prelude.{rules}
use Rattle.modes.specs.Mode.{width_of}
use Rattle.modes.proofs.width.Goals as goal

pub returns : goal.returns
unfolding width_of
returns c = search rules
