-- `copies::lay_run` meets its contract.
use Rattle.base.proofs.Prelude.{◌+◌}
use Rattle.base.specs.Steps.{entry}
use Rattle.points.specs.Points.{point_at}
use Rattle.points.proofs.Copy.{Putting}
use Rattle.copies.proofs.lay_run.Given as goal

abbrev pub invariant-loop-m : goal.invariant-loop-m
invariant-loop-m l = Putting (λ i. entry l.row (l.q + i)) (λ i. point_at l.points (l.first + i)) l.n l.initial.grid l.grid l.m
