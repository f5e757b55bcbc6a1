use Rattle.base.proofs.{Prelude.{arith}, Tabulate.{tabulated}}
use Rattle.fusc_points.proofs.point_numbers.Goals as goal

pub returns : goal.returns
returns c = tabulated 0 _ 1536 _ c.loop-n.invariant.0 (λ k h. c.loop-n.invariant.1 k (omega arith))
