use Rattle.base.proofs.Prelude.{arith, lt-ltb}
use Rattle.base.specs.Choice.{is_up_to}
use Rattle.base.proofs.is_up_to.Goals as goal

pub returns-then-number-ne0 : goal.returns-then-number-ne0
unfolding is_up_to
returns-then-number-ne0 c = rw (lt-ltb 0 c.args.number (omega arith))

pub returns-else-number-ne0 : goal.returns-else-number-ne0
unfolding is_up_to
returns-else-number-ne0 c = rw c.if-number-ne0.false
