-- `burst::is_shared` meets its contract.
use Rattle.base.proofs.Test.{and_is}
use Rattle.burst.specs.Burst.{is_shared}
use Rattle.burst.proofs.is_shared.Goals as goal

pub returns : goal.returns
unfolding is_shared
returns c = rw and_is
