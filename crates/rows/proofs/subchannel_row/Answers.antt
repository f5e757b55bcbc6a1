-- `rows::subchannel_row` meets its contract.
use Rattle.base.proofs.Prelude.{arith}
use Rattle.modes.proofs.ByMode.{few}
use Rattle.rows.specs.Model.{shift_of}
use Rattle.rows.proofs.subchannel_row.Goals as goal

pub shift-requires : goal.shift-requires
shift-requires c = let p = c.requires in omega (arith, p.subchannel_bound, few p.valid.ranged)

pub returns : goal.returns
unfolding shift_of
returns c = let by = c.shift.ensures in (by.1, rw by.0 c.carrier_row.ensures)
