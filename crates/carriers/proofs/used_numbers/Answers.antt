use Rattle.base.proofs.{Prelude.{arith}, Tabulate.{written_next, written_all}}
use Rattle.carriers.proofs.Bin.{used_by_steps, pilot_place_le}
use Rattle.carriers.proofs.used_numbers.Goals as goal

pub overflow_cast-pilot : goal.overflow_cast-pilot
overflow_cast-pilot c = rw c.bin_pilot_place-pilot.ensures (omega (arith, pilot_place_le c.args.y))

pub loop-m-preserved : goal.loop-m-preserved
loop-m-preserved c = written_next c.loop-m.invariant c.loop-m-test.true _ (rw c.bin_pilot_place-pilot.ensures (used_by_steps _ _))

pub returns : goal.returns
returns c = written_all c.loop-m.invariant c.loop-m-test.false
