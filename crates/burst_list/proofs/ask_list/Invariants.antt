-- `burst_list::ask_list` meets its contract: the bursts before the i-th have passed, and their edges stand in the columns.
use Rattle.base.proofs.Prelude.{◌≡◌, true}
use Rattle.burst_list.specs.List.{is_list}
use Rattle.burst_list.proofs.Each.{Passes}
use Rattle.burst_list.proofs.Columns.{Held}
use Rattle.burst_list.proofs.ask_list.Given as goal

abbrev pub invariant-loop-i : goal.invariant-loop-i
invariant-loop-i l = (is_list l.bursts ≡ true) × Passes l.subchannel_end l.slot_end l.bursts l.i × Held l.bursts l.starts l.ends l.slot_starts l.slot_ends l.i
