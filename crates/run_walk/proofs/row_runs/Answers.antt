-- `run_walk::row_runs` meets its contract.
use Rattle.base.proofs.Prelude.{arith}
use Rattle.modes.specs.Model.{own}
use Rattle.modes.proofs.ByMode.{few, slot_few}
use Rattle.run_walk.proofs.row_runs.Goals as goal

pub overflow_mul-slot : goal.overflow_mul-slot
overflow_mul-slot c = let p = c.requires in omega (arith, slot_few (own p.unlent) _ _ p.slot_bound.0 c.symbols.ensures)

pub overflow_add-slot : goal.overflow_add-slot
overflow_add-slot c =
    let p = c.requires in
    omega (arith, slot_few (own p.unlent) _ _ p.slot_bound.0 c.symbols.ensures, (few (own p.unlent)).symbols_few, p.slot_bound.1)

pub returns : goal.returns
returns c =
    record {
      shape_is = rw c.symbols.ensures at c.symbol_runs-shape.ensures;
      all_is = c.run_points.ensures;
      places_are = c.run_places.ensures;
      run_is = c.row_strides.ensures.0;
      point_is = c.row_strides.ensures.1;
    }
