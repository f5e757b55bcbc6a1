-- `capi_map::bp_locate` meets its contract.
use Rattle.base.proofs.Prelude.{arith}
use mir.{Syntax.w32, ValLaws.to_z-of_z}
use Rattle.capi_map.specs.Map.{locate_out}
use Rattle.capi_map.proofs.Map.{data_small, located_out, held_out}
use Rattle.capi_map.proofs.bp_locate.Goals as goal

pub overflow_cast-slot : goal.overflow_cast-slot
overflow_cast-slot c = omega (arith, data_small _ _ _ _ c.locate-answer.ensures _ c.in-Ok.is _ _ _ c.in-Data.is)

pub overflow_cast-subchannel : goal.overflow_cast-subchannel
overflow_cast-subchannel c = omega (arith, data_small _ _ _ _ c.locate-answer.ensures _ c.in-Ok.is _ _ _ c.in-Data.is)

pub overflow_cast-index : goal.overflow_cast-index
overflow_cast-index c = omega (arith, data_small _ _ _ _ c.locate-answer.ensures _ c.in-Ok.is _ _ _ c.in-Data.is)

pub returns-in-Guard : goal.returns-in-Guard
unfolding locate_out
returns-in-Guard c =
    held_out _ _ _ _ (rw (c.setup-of.ensures, to_z-of_z w32 c.args.carrier c.ranges.carrier) at c.locate-answer.ensures) _ _ _ _ _ _ c.in-Ok.is c.in-Guard.is

pub returns-in-Dc : goal.returns-in-Dc
unfolding locate_out
returns-in-Dc c =
    held_out _ _ _ _ (rw (c.setup-of.ensures, to_z-of_z w32 c.args.carrier c.ranges.carrier) at c.locate-answer.ensures) _ _ _ _ _ _ c.in-Ok.is c.in-Dc.is

pub returns-in-Pilot : goal.returns-in-Pilot
unfolding locate_out
returns-in-Pilot c =
    held_out _ _ _ _ (rw (c.setup-of.ensures, to_z-of_z w32 c.args.carrier c.ranges.carrier) at c.locate-answer.ensures) _ _ _ _ _ _ c.in-Ok.is c.in-Pilot.is

pub returns-in-Data : goal.returns-in-Data
unfolding locate_out
returns-in-Data c =
    held_out _ _ _ _ (rw (c.setup-of.ensures, to_z-of_z w32 c.args.carrier c.ranges.carrier) at c.locate-answer.ensures) _ _ _ _ _ _ c.in-Ok.is c.in-Data.is

pub returns-in-Err : goal.returns-in-Err
unfolding locate_out
returns-in-Err c =
    rw c.from.ensures (located_out _ _ _ _ (rw (c.setup-of.ensures, to_z-of_z w32 c.args.carrier c.ranges.carrier) at c.locate-answer.ensures) _ _ _ _ _ c.in-Err.is)
