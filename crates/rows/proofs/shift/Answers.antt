-- `rows::shift` meets its contract.
use Rattle.base.proofs.Prelude.{arith, rules}
use Rattle.modes.proofs.Named.{by_name}
use Rattle.rows.specs.Model.{shift_of}
use Rattle.rows.proofs.shift.Goals as goal

pub returns-in-Ok-PuscDl : goal.returns-in-Ok-PuscDl
unfolding shift_of
returns-in-Ok-PuscDl c = (search (by_name, rules), omega arith)

pub returns-in-Ok-PuscUl : goal.returns-in-Ok-PuscUl
unfolding shift_of
returns-in-Ok-PuscUl c = (search (by_name, rules), omega arith)

pub returns-in-Ok-Ofusc : goal.returns-in-Ok-Ofusc
unfolding shift_of
returns-in-Ok-Ofusc c = (search (by_name, rules), omega arith)

pub returns-in-Ok-Amc : goal.returns-in-Ok-Amc
unfolding shift_of
returns-in-Ok-Amc c = (search (by_name, rules), omega arith)

pub returns-in-Ok-Fusc : goal.returns-in-Ok-Fusc
unfolding shift_of
returns-in-Ok-Fusc c = (search (by_name, rules), omega arith)

pub returns-in-Err : goal.returns-in-Err
unfolding shift_of
returns-in-Err c = (search (by_name, rules), omega arith)
