-- `lengths::grid_points` meets its contract.
use Rattle.base.proofs.Prelude.{arith}
use Rattle.lengths.proofs.{Refusal.grid_is}
use Rattle.lengths.proofs.grid_points.Goals as goal

pub overflow_mul-result : goal.overflow_mul-result
overflow_mul-result c = omega (arith, grid_is c.requires _ c.symbols.ensures)

pub returns : goal.returns
returns c = grid_is c.requires _ c.symbols.ensures
