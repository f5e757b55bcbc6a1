-- `pilot_list::used_of_data` meets its contract.
use Rattle.base.proofs.Prelude.{◌≡◌, ◌+◌, ◌≤◌}
use Rattle.pilot_list.proofs.{Stand.{Stands}}
use Rattle.pilot_list.proofs.used_of_data.Given as goal

abbrev pub invariant-loop-pilot : goal.invariant-loop-pilot
invariant-loop-pilot l = (l.pilot-index ≤ 166) × (l.at ≡ l.d + l.pilot-index) × Stands l.pilots l.pilot-index l.d l.passed
