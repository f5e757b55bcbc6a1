-- `burst_owner::marked_row` meets its contract.
use Rattle.base.proofs.Prelude.{◌≤◌}
use Rattle.burst_list.specs.List.{burst_count}
use Rattle.burst_owner.proofs.Row.{RowMarked}
use Rattle.burst_owner.proofs.marked_row.Given as goal

abbrev pub invariant-loop-i : goal.invariant-loop-i
invariant-loop-i l = (l.i ≤ burst_count l.bursts) × RowMarked l.bursts l.slot l.row l.i
