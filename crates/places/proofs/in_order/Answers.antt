use Rattle.base.proofs.{Tabulate.{written_none, written_next, written_all}}
use Rattle.places.proofs.in_order.Goals as goal

pub loop-m-init : goal.loop-m-init
loop-m-init c = (c.requires, written_none 48 _)

pub loop-m-preserved : goal.loop-m-preserved
loop-m-preserved c =
    let inv = c.loop-m.invariant in
    (inv.0, written_next inv.1 c.loop-m-test.true _ (rw c.reduce.ensures.0 at c.from.ensures))

pub returns : goal.returns
returns c = written_all c.loop-m.invariant.1 c.loop-m-test.false
