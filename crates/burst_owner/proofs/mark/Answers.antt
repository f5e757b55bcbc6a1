use Rattle.base.proofs.{Prelude.{refl, arith}, Tabulate.{over_none, over_next}}
use Rattle.burst_owner.proofs.Row.{marking_all}
use Rattle.burst_owner.proofs.mark.Goals as goal

pub loop-m-init : goal.loop-m-init
loop-m-init c = (c.requires.1, over_none c.requires.0)

pub loop-m-preserved : goal.loop-m-preserved
loop-m-preserved c =
    let inv = c.loop-m.invariant in
    (inv.0, over_next inv.1 c.loop-m-test.true (omega (arith, c.loop-m-test.true, inv.0)) (λ k l q. omega arith) _ refl)

pub returns : goal.returns
returns c = marking_all _ _ c.loop-m.invariant.1 c.loop-m-test.false
