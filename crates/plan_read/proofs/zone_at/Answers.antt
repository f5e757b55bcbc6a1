use Rattle.base.proofs.Prelude.{arith, rules}
use Rattle.plan_read.proofs.Step.{no_value, value_refused, value_again, values_all, found_no}
use Rattle.plan_read.proofs.zone_at.Goals as goal

pub loop-k-init : goal.loop-k-init
loop-k-init c = no_value _ _ _ (search rules)

pub returns-in_err-read : goal.returns-in_err-read
returns-in_err-read c =
    found_no _ _ _ _ c.from_residual.ensures.1 (λ next. value_refused c.loop-k.invariant c.loop-k-test.true c.in_err-read.ensures _)

pub loop-k-preserved : goal.loop-k-preserved
loop-k-preserved c = value_again c.loop-k.invariant c.loop-k-test.true c.in_ok-read.ensures

pub overflow_add-next : goal.overflow_add-next
overflow_add-next c = omega (arith, (value_again c.loop-k.invariant c.loop-k-test.true c.in_ok-read.ensures).inside)

pub returns : goal.returns
returns c next = values_all c.loop-k.invariant c.loop-k-test.false _
