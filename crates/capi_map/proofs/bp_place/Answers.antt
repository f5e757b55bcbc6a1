-- `capi_map::bp_place` meets its contract.
use Rattle.base.proofs.Prelude.{arith}
use mir.{Syntax.w32, ValLaws.to_z-of_z}
use Rattle.capi_map.specs.Map.{place_out}
use Rattle.capi_map.proofs.Map.{placed_out, place_fits}
use Rattle.capi_map.proofs.bp_place.Goals as goal

pub overflow_cast-symbol : goal.overflow_cast-symbol
overflow_cast-symbol c = omega (arith, place_fits _ _ _ _ _ c.place-answer.ensures _ c.in-Ok.is)

pub returns-in-Ok : goal.returns-in-Ok
unfolding place_out
returns-in-Ok c =
    rw (to_z-of_z w32 _ (place_fits _ _ _ _ _ c.place-answer.ensures _ c.in-Ok.is).1)
    (placed_out _ _ _ _ _ (rw c.setup-of.ensures at c.place-answer.ensures) _ _ _ c.in-Ok.is)

pub returns-in-Err : goal.returns-in-Err
unfolding place_out
returns-in-Err c = rw c.from.ensures (placed_out _ _ _ _ _ (rw c.setup-of.ensures at c.place-answer.ensures) _ _ _ c.in-Err.is)
