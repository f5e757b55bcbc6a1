use Rattle.std.proofs.Common.{arith, ap, ℕ, drop, ◌∙◌}
use Rattle.vector_lines.specs.Model.{read_on, parsed_at}
use Rattle.vector_lines.proofs.Reading.{within, saturates, reads_on, reads_end}
use Rattle.vector_lines.proofs.read_number.Goals as goal

pub loop-digit-init : goal.loop-digit-init
unfolding parsed_at
loop-digit-init c = ap (λ (k : ℕ). read_on 0 k (drop k c.args.src.now)) c.past_spaces-next.ensures

pub overflow_add-next : goal.overflow_add-next
overflow_add-next c = omega (arith, within c.args.src.now 0 c.loop-digit.next c.in-Some.digit c.in-Some.ensures)

pub loop-digit-smaller : goal.loop-digit-smaller
loop-digit-smaller c = omega (arith, within c.args.src.now 0 c.loop-digit.next c.in-Some.digit c.in-Some.ensures)

pub loop-digit-preserved : goal.loop-digit-preserved
loop-digit-preserved c =
    reads_on c.args.src.now c.loop-digit.value c.loop-digit.next c.in-Some.digit c.in-Some.ensures _
    (saturates _ _ _ _ c.saturating_mul.ensures c.saturating_add-value.ensures)
    ∙ c.loop-digit.invariant

pub returns : goal.returns
returns c = reads_end c.args.src.now _ _ c.in_default.ensures ∙ c.loop-digit.invariant
