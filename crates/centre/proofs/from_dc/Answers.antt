-- `centre::from_dc` meets its contract.
use Rattle.base.proofs.Prelude.{◌/◌, ◌≤◌, arith, rules}
use Rattle.centre.specs.Centre.{from_dc}
use Rattle.centre.proofs.Law.{difference_fits, difference_is}
use Rattle.centre.proofs.from_dc.Goals as goal

pub overflow_sub-result : goal.overflow_sub-result
overflow_sub-result c =
    let column-few : c.args.column ≤ 2147483647 = omega arith in
    let half_few : c.args.size / 2 ≤ 2147483647 = omega arith in
    search (difference_fits, rules)

pub returns : goal.returns
unfolding from_dc
returns c = difference_is {a = c.args.column} {b = c.args.size / 2} (omega arith) (omega arith)
