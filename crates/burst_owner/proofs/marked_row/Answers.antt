use Rattle.base.proofs.Prelude.{sym, List, ℕ, ◌<◌, arith}
use Rattle.burst_list.specs.List.{burst_count}
use Rattle.burst.proofs.Cover.{inside}
use Rattle.burst_list.proofs.Each.{list_yes, list_most}
use Rattle.burst_owner.specs.Model.{Accepted}
use Rattle.burst_owner.proofs.Row.{row_none, row_next, row_all}
use Rattle.burst_owner.proofs.marked_row.Goals as goal

pub loop-i-init : goal.loop-i-init
loop-i-init c = (omega arith, row_none _ _)

few : (numbers : List ℕ) {i : ℕ} → Accepted numbers → i < burst_count numbers → i < 64
few numbers a h = omega (arith, list_most _ _ numbers (sym a.no_refusal))

pub burst_at-requires : goal.burst_at-requires
burst_at-requires c = (few _ c.requires c.loop-i-test.true, omega (arith, c.loop-i-test.true))

pub overflow_cast-i : goal.overflow_cast-i
overflow_cast-i c = omega (arith, few _ c.requires c.loop-i-test.true)

pub mark_burst-requires : goal.mark_burst-requires
mark_burst-requires c =
    let accepted = c.requires in
    (c.loop-i.invariant.1.long, rw c.burst_at.ensures (omega (arith, inside _ _ _ ((list_yes _ _ _ accepted.no_refusal).1 c.loop-i.i c.loop-i-test.true).inside, accepted.at_most_192)))

pub loop-i-preserved : goal.loop-i-preserved
loop-i-preserved c =
    (omega (arith, c.loop-i-test.true), row_next _ _ c.loop-i.invariant.1 ((list_yes _ _ _ c.requires.no_refusal).1 _ c.loop-i-test.true) (rw c.burst_at.ensures at c.mark_burst.ensures))

pub returns : goal.returns
returns c = row_all _ _ c.loop-i.invariant.1 (omega (arith, c.loop-i.invariant.0, c.loop-i-test.false))
