-- `zone::is_unused` meets its contract.
use Rattle.base.proofs.Test.{and_is}
use Rattle.zone.specs.Zone.{is_unused}
use Rattle.zone.proofs.is_unused.Goals as goal

pub returns : goal.returns
unfolding is_unused
returns c = rw (c.eq.ensures, and_is, and_is, and_is)
