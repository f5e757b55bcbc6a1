-- `ground::last_pilot` meets its contract.
use Rattle.base.proofs.Prelude.{lt-ltb, le-ltb}
use Rattle.ground.specs.Model.{last_pilot}
use Rattle.ground.proofs.last_pilot.Goals as goal

pub returns-then-shape : goal.returns-then-shape
unfolding last_pilot
returns-then-shape c = rw (lt-ltb _ _ c.if-shape.true)

pub returns : goal.returns
unfolding last_pilot
returns c = rw (le-ltb _ _ c.if-shape.false)
