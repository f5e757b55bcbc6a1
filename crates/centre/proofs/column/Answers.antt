-- `centre::column` meets its contract.
use Rattle.base.proofs.Prelude.{◌≡◌, ◌/◌, ◌<◌, arith, rules}
use lib.{IntN.{pos, ◌+ℤ◌}, Signed.mag}
use mir.{Syntax.w32, Val.{to_z, of_z}, ValLaws.{to_z_pos, to_z-of_z}}
use Rattle.centre.specs.Centre.{on_row}
use Rattle.centre.proofs.Law.{in_range_mag, sum_mag, sum_non_neg}
use Rattle.centre.proofs.column.Goals as goal

-- what the machine adds are the numbers themselves
sum_is : (c : goal.Start) → to_z w32 (of_z w32 c.args.carrier) +ℤ to_z w32 (c.args.size / 2) ≡ c.args.carrier +ℤ pos (c.args.size / 2)
sum_is c = rw (to_z-of_z w32 c.args.carrier c.ranges.carrier, to_z_pos w32 (c.args.size / 2) (omega arith))

within : (c : goal.Start) → mag c.args.carrier < c.args.size / 2
within c = in_range_mag c.args.size c.args.carrier c.requires.1

pub overflow_add-result : goal.overflow_add-result
overflow_add-result c = rw (sum_is c) (record { sfits = omega (arith, sum_mag c.args.carrier (c.args.size / 2), within c) })

pub overflow_cast-result-2 : goal.overflow_cast-result-2
overflow_cast-result-2 c =
    let q = sum_non_neg c.args.carrier (c.args.size / 2) (within c) in
    rw (to_z-of_z w32 _ (overflow_add-result c), sum_is c) (q.0, record { fits = omega arith })

pub returns : goal.returns
unfolding on_row
returns c = rw (to_z-of_z w32 _ (overflow_add-result c), sum_is c)
