-- `centre::in_range` meets its contract.
use Rattle.base.proofs.Prelude.{◌≡◌, sym, ◌∙◌, Bool, ◌/◌, ◌≤◌, arith, rules}
use lib.{IntN.{pos, neg_ℤ, ◌-ℤ◌, +ℤ_idl}, Signed.lt_z}
use mir.{Syntax.w32, Val.{to_z, of_z}, ValLaws.{to_z_pos, to_z-of_z}}
use Rattle.centre.specs.Centre.{in_range}
use Rattle.centre.proofs.Law.{difference_is, literal_fits}
use Rattle.centre.proofs.in_range.Goals as goal

pub overflow_sub-half : goal.overflow_sub-half
overflow_sub-half c = let half_few : c.args.size / 2 ≤ 2147483647 = omega arith in search (literal_fits, rules)

-- the first test is of the numbers themselves
below : (c : goal.Start) (t : Bool) → lt_z (to_z w32 (of_z w32 c.args.carrier)) (to_z w32 (of_z w32 (pos 0 -ℤ to_z w32 (c.args.size / 2)))) ≡ t
    → lt_z c.args.carrier (neg_ℤ (pos (c.args.size / 2))) ≡ t
below c t e =
    sym (rw (to_z-of_z w32 c.args.carrier c.ranges.carrier, difference_is {a = 0} {b = c.args.size / 2} (omega arith) (omega arith), +ℤ_idl)) ∙ e

pub returns-then-carrier-half : goal.returns-then-carrier-half
unfolding in_range
returns-then-carrier-half c = rw (below c.before _ c.if-carrier-half.true)

pub returns : goal.returns
unfolding in_range
returns c =
    rw (below c.before _ c.if-carrier-half.false, to_z-of_z w32 c.args.carrier c.ranges.carrier, to_z_pos w32 (c.args.size / 2) (omega arith))
