use Rattle.base.proofs.{Test.and_of, First.{asking, asking_next, asked}}
use Rattle.burst.specs.Model.{edges_overlap}
use Rattle.burst_list.proofs.is_apart.Goals as goal

pub loop-j-preserved : goal.loop-j-preserved
unfolding edges_overlap
loop-j-preserved c =
    asking_next c.loop-j.invariant c.loop-j-test.true _ (and_of c.is_shared.ensures c.is_shared-in-loop-j.ensures)

pub loop-j-init : goal.loop-j-init
loop-j-init c = asking

pub returns : goal.returns
returns c = asked c.loop-j.invariant c.loop-j-test.false
