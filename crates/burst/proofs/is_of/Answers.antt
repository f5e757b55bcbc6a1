-- `burst::is_of` meets its contract.
use Rattle.base.proofs.{Prelude.rules, Test.and_is}
use Rattle.burst.specs.Burst.{is_of}
use Rattle.burst.proofs.is_of.Goals as goal

pub returns : goal.returns
unfolding is_of
returns c = rw (c.end_of.ensures, and_is)
