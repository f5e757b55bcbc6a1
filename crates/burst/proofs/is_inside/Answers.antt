-- `burst::is_inside` meets its contract.
use Rattle.base.proofs.{Prelude.rules, Test.and_of}
use Rattle.burst.specs.Burst.{is_inside}
use Rattle.burst.proofs.is_inside.Goals as goal

pub returns : goal.returns
unfolding is_inside
returns c = and_of c.is_within.ensures c.is_within-2.ensures
