-- `carriers::is_guard` meets its contract.
use Rattle.base.proofs.Prelude.{lt-ltb, le-ltb}
use Rattle.carriers.specs.Band.{is_guard}
use Rattle.carriers.proofs.is_guard.Goals as goal

pub returns-then-carrier-b : goal.returns-then-carrier-b
unfolding is_guard
returns-then-carrier-b c = simp (lt-ltb _ _ c.if-carrier-b.true)

pub returns : goal.returns
unfolding is_guard
returns c = simp (le-ltb _ _ c.if-carrier-b.false)
