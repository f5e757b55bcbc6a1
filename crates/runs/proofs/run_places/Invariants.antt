-- `runs::run_places` meets its contract.
use Rattle.base.proofs.{Tabulate.{Written}}
use Rattle.runs.specs.{Model.run_place}
use Rattle.runs.proofs.run_places.Given as goal

abbrev pub invariant-loop-j : goal.invariant-loop-j
invariant-loop-j l = Written 12 (run_place l.b) l.places l.j
