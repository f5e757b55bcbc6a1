-- `point_numbers::row_numbers` meets its contract.
use Rattle.point_numbers.proofs.Numbers.{asks_1, numbers_1}
use Rattle.point_numbers.proofs.row_numbers.Goals as goal

pub row_numbers-requires : goal.row_numbers-requires
row_numbers-requires c =
    let p = c.requires in
    let a = asks_1 p.unlent _ p.row_bound.0 _ c.args.runs.now p.run_table.0 c.if-setup-eq1.true in
    record { cell_bound = a.0; starts = a.1 }

pub returns-then-setup-eq1 : goal.returns-then-setup-eq1
returns-then-setup-eq1 c = let p = c.requires in numbers_1 _ c.args.slot _ c.row_numbers.result p.unlent c.if-setup-eq1.true p.row_bound.0 c.row_numbers.ensures

pub numbers_by_run-requires : goal.numbers_by_run-requires
numbers_by_run-requires c =
    let p = c.requires in
    record { unlent = p.unlent; fact = (c.if-setup-eq1.false, p.row_bound.0, p.row_bound.1); run_table = p.run_table }
