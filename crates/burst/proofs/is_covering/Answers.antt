-- `burst::is_covering` meets its contract.
use Rattle.base.proofs.{Prelude.rules, Test.and_of}
use Rattle.burst.specs.Burst.{is_covering}
use Rattle.burst.proofs.is_covering.Goals as goal

pub returns : goal.returns
unfolding is_covering
returns c = and_of c.is_of.ensures c.is_of-2.ensures
