-- `capi_look::bp_look` meets its contract.
use Rattle.base.proofs.Prelude.{arith}
use Rattle.capi_look.specs.Look.{look_out}
use Rattle.capi_look.proofs.Look.{seen_small, seen_out, sight_out}
use mir.{Syntax.w32, ValLaws.to_z-of_z}
use Rattle.capi_look.proofs.bp_look.Goals as goal

pub overflow_cast-slot : goal.overflow_cast-slot
overflow_cast-slot c = omega (arith, seen_small _ _ _ _ _ _ c.look-answer.ensures _ c.in-Ok.is _ _ _ _ c.in-Data.is)

pub overflow_cast-subchannel : goal.overflow_cast-subchannel
overflow_cast-subchannel c = omega (arith, seen_small _ _ _ _ _ _ c.look-answer.ensures _ c.in-Ok.is _ _ _ _ c.in-Data.is)

pub overflow_cast-index : goal.overflow_cast-index
overflow_cast-index c = omega (arith, seen_small _ _ _ _ _ _ c.look-answer.ensures _ c.in-Ok.is _ _ _ _ c.in-Data.is)

pub returns-in-Nothing : goal.returns-in-Nothing
unfolding look_out
returns-in-Nothing c =
    sight_out _ _ _ _ _ _ (rw (c.setup-of.ensures, to_z-of_z w32 c.args.carrier c.ranges.carrier) at c.look-answer.ensures) _ _ _ _ _ _ _ c.in-Ok.is c.in-Nothing.is

pub returns-in-Pilot : goal.returns-in-Pilot
unfolding look_out
returns-in-Pilot c =
    sight_out _ _ _ _ _ _ (rw (c.setup-of.ensures, to_z-of_z w32 c.args.carrier c.ranges.carrier) at c.look-answer.ensures) _ _ _ _ _ _ _ c.in-Ok.is c.in-Pilot.is

pub returns-in-Data : goal.returns-in-Data
unfolding look_out
returns-in-Data c =
    sight_out _ _ _ _ _ _ (rw (c.setup-of.ensures, to_z-of_z w32 c.args.carrier c.ranges.carrier) at c.look-answer.ensures) _ _ _ _ _ _ _ c.in-Ok.is c.in-Data.is

pub returns-in-Err : goal.returns-in-Err
unfolding look_out
returns-in-Err c =
    rw c.from.ensures (seen_out _ _ _ _ _ _ (rw (c.setup-of.ensures, to_z-of_z w32 c.args.carrier c.ranges.carrier) at c.look-answer.ensures) _ _ _ _ _ _ c.in-Err.is)
