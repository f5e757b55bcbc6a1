use Rattle.base.proofs.Tabulate.{written_all}
use Rattle.carriers.specs.Model.{carrier_step}
use Rattle.carriers.proofs.carrier_row.Goals as goal

pub returns : goal.returns
unfolding carrier_step
returns c = written_all c.loop-k.invariant c.loop-k-test.false
