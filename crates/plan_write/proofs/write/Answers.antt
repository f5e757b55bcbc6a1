-- `plan_write::write` meets its contract.
use Rattle.base.proofs.Prelude.{sym, arith}
use lib.Seq.{length-take-le}
use borrow.Author.Tests.{leb-true}
use Rattle.refusal.proofs.Asked.{asked_yes}
use Rattle.plan.proofs.Judge.{fit_of}
use Rattle.plan_write.proofs.Bytes.{plan_51, write_no, write_short, write_done, written_no}
use Rattle.plan_write.proofs.write.Goals as goal

pub returns-in_err-ask_plan : goal.returns-in_err-ask_plan
returns-in_err-ask_plan c = written_no _ _ _ c.from_residual.ensures.1 (write_no _ _ _ c.in_err-ask_plan.ensures)

pub put_plan-n-requires : goal.put_plan-n-requires
put_plan-n-requires c = let none = sym c.in_ok-ask_plan.ensures in (none, omega (arith, plan_51 (fit_of _ none)))

pub returns-in_err-ask : goal.returns-in_err-ask
returns-in_err-ask c =
    written_no _ _ _ c.from_residual-in_err-ask.ensures.1 (write_short _ _ (fit_of _ (sym c.in_ok-ask_plan.ensures)) _ c.put_plan-n.ensures c.in_err-ask.ensures)

pub slice_bounds-bytes-end : goal.slice_bounds-bytes-end
slice_bounds-bytes-end c = omega (arith, plan_51 (fit_of _ (sym c.in_ok-ask_plan.ensures)), c.put_plan-n.ensures.next_is)

pub slice_bounds-put_bytes-end : goal.slice_bounds-put_bytes-end
slice_bounds-put_bytes-end c = sym (length-take-le _ _ (slice_bounds-bytes-end c.before))

pub put_bytes-requires : goal.put_bytes-requires
put_bytes-requires c = omega (arith, slice_bounds-put_bytes-end c, leb-true _ _ (asked_yes _ 16 _ c.in_ok-ask.ensures))

pub returns : goal.returns
returns c = write_done _ _ (fit_of _ (sym c.in_ok-ask_plan.ensures)) _ c.put_plan-n.ensures c.in_ok-ask.ensures c.put_bytes.ensures
