-- `pilot_list::data_of_used` meets its contract.
use Rattle.base.proofs.Prelude.{◌≤◌}
use Rattle.pilot_list.proofs.{Stand.{After}}
use Rattle.pilot_list.proofs.data_of_used.Given as goal

abbrev pub invariant-loop-pilot : goal.invariant-loop-pilot
invariant-loop-pilot l = (l.pilot-index ≤ 166) × After l.pilots l.pilot-index l.used l.below
