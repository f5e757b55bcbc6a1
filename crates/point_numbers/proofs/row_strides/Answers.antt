-- `point_numbers::row_strides` meets its contract.
use Rattle.base.proofs.Prelude.{rules}
use Rattle.modes.proofs.Named.{by_name}
use Rattle.point_numbers.specs.Model.{run_stride, point_stride}
use Rattle.point_numbers.proofs.row_strides.Goals as goal

pub returns-in-Ok-PuscDl : goal.returns-in-Ok-PuscDl
unfolding run_stride point_stride
returns-in-Ok-PuscDl c = search (by_name, rules)

pub returns-in-Ok-PuscUl : goal.returns-in-Ok-PuscUl
unfolding run_stride point_stride
returns-in-Ok-PuscUl c = search (by_name, rules)

pub returns-in-Ok-Ofusc : goal.returns-in-Ok-Ofusc
unfolding run_stride point_stride
returns-in-Ok-Ofusc c = search (by_name, rules)

pub returns-in-Ok-Amc : goal.returns-in-Ok-Amc
unfolding run_stride point_stride
returns-in-Ok-Amc c = search (by_name, rules)

pub returns-in-Ok-Fusc : goal.returns-in-Ok-Fusc
unfolding run_stride point_stride
returns-in-Ok-Fusc c = search (by_name, rules)

pub returns-in-Err : goal.returns-in-Err
unfolding run_stride point_stride
returns-in-Err c = search (by_name, rules)
