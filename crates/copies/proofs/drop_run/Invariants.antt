-- `copies::drop_run` meets its contract.
use Rattle.base.proofs.Prelude.{◌+◌, ◌*◌}
use Rattle.base.specs.Steps.{entry}
use Rattle.points.specs.Points.{point_at}
use Rattle.points.proofs.Copy.{Putting}
use Rattle.copies.proofs.drop_run.Given as goal

abbrev pub invariant-loop-j : goal.invariant-loop-j
invariant-loop-j l = Putting (λ i. entry l.numbers (l.from + i * l.stride)) (λ i. point_at l.grid (l.start + entry l.places i)) l.n l.initial.points l.points l.j
