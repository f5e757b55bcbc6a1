use Rattle.base.proofs.{Prelude.{arith, sym}, LeaveOut.{unskip_below, unskip_above}}
use Rattle.base.proofs.unskip.Goals as goal

pub returns-then-place-p : goal.returns-then-place-p
returns-then-place-p c = (sym (unskip_below _ _ c.if-place-p.true), omega arith)

pub returns-else-place-p : goal.returns-else-place-p
returns-else-place-p c = (sym (unskip_above _ _ c.if-place-p.false), omega arith)
