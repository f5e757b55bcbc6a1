-- `fusc_walk::drop_points` meets its contract.
use Rattle.base.proofs.Prelude.{ℕ, ◌<◌}
use Rattle.base.specs.Steps.{entry}
use Rattle.points.specs.Points.{point_at}
use Rattle.points.proofs.Copy.{Putting}
use Rattle.fusc_walk.proofs.drop_points.Given as goal

abbrev pub invariant-loop-d : goal.invariant-loop-d
invariant-loop-d l = ((e : ℕ) → e < l.d → entry l.columns e < l.carriers) × Putting (entry l.numbers) (λ e. point_at l.grid (entry l.columns e)) 1536 l.initial.points l.points l.d
