use Rattle.base.proofs.{Prelude.{arith, sym}, LeaveOut.{skip_below, skip_above}}
use Rattle.base.proofs.skip.Goals as goal

pub returns-then-r-p : goal.returns-then-r-p
returns-then-r-p c = (sym (skip_below _ _ c.if-r-p.true), omega arith)

pub returns-else-r-p : goal.returns-else-r-p
returns-else-r-p c = (sym (skip_above _ _ c.if-r-p.false), omega arith)
