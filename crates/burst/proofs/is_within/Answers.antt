-- `burst::is_within` meets its contract.
use Rattle.base.proofs.{Prelude.rules, Test.and_is}
use Rattle.burst.specs.Burst.{is_within}
use Rattle.burst.proofs.is_within.Goals as goal

pub returns : goal.returns
unfolding is_within
returns c = rw (c.end_of.ensures, and_is)
