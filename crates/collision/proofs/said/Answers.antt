-- `collision::said` meets its contract.
use Rattle.base.proofs.Prelude.{refl}
use Rattle.base.specs.Tabulate.{tabulate}
use Rattle.collision.proofs.said.Goals as goal

pub returns-in-Err : goal.returns-in-Err
unfolding tabulate
returns-in-Err c = rw c.in-Err.is (refl, refl)
