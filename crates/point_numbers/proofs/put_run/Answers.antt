use Rattle.base.proofs.{Prelude.{refl, arith}, Tabulate.{over_none, over_next}}
use Rattle.point_numbers.proofs.{Filled.put_all}
use Rattle.point_numbers.proofs.put_run.Goals as goal

pub loop-j-init : goal.loop-j-init
loop-j-init c = over_none c.requires.1

pub loop-j-preserved : goal.loop-j-preserved
loop-j-preserved c = over_next c.loop-j.invariant c.loop-j-test.true (omega (arith, c.requires.0, c.loop-j-test.true)) (λ k l q. omega arith) _ refl

pub returns : goal.returns
returns c = put_all _ c.loop-j.invariant c.loop-j-test.false c.requires.1
