use Rattle.base.proofs.Prelude.{refl, arith, rules}
use Rattle.plan.proofs.Places.{length_mapped}
use Rattle.plan_numbers.proofs.Laws.{row_begin, now_small, row_again, row_end}
use Rattle.plan_numbers.proofs.numbers.Goals as goal

pub loop-k-init : goal.loop-k-init
loop-k-init c = row_begin _ _ (search (length_mapped, rules) depth 8) (search rules) c.requires

pub overflow_cast-numbers : goal.overflow_cast-numbers
overflow_cast-numbers c = omega (arith, (now_small c.loop-k.invariant).mode_most)

pub overflow_cast-numbers-in-loop-k : goal.overflow_cast-numbers-in-loop-k
overflow_cast-numbers-in-loop-k c = omega (arith, (now_small c.loop-k.invariant).cell_most)

pub overflow_cast-numbers-in-loop-k-2 : goal.overflow_cast-numbers-in-loop-k-2
overflow_cast-numbers-in-loop-k-2 c = omega (arith, (now_small c.loop-k.invariant).slots_most)

pub overflow_cast-numbers-in-loop-k-3 : goal.overflow_cast-numbers-in-loop-k-3
overflow_cast-numbers-in-loop-k-3 c = omega (arith, (now_small c.loop-k.invariant).mask_most)

pub loop-k-preserved : goal.loop-k-preserved
loop-k-preserved c = row_again c.loop-k.invariant c.loop-k-test.true _ refl

pub returns : goal.returns
returns c = row_end c.loop-k.invariant c.loop-k-test.false
