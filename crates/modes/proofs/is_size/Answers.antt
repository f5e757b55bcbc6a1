-- `modes::is_size` meets its contract.
use Rattle.base.proofs.Prelude.{rules}
use Rattle.modes.specs.Question.{is_size}
use Rattle.modes.proofs.Named.{by_name}
use Rattle.modes.proofs.is_size.Goals as goal

pub returns-in-Ok-PuscDl : goal.returns-in-Ok-PuscDl
unfolding is_size
returns-in-Ok-PuscDl c = search (by_name, rules)

pub returns-in-Ok-PuscUl : goal.returns-in-Ok-PuscUl
unfolding is_size
returns-in-Ok-PuscUl c = search (by_name, rules)

pub returns-in-Ok-Ofusc : goal.returns-in-Ok-Ofusc
unfolding is_size
returns-in-Ok-Ofusc c = search (by_name, rules)

pub returns-in-Ok-Amc : goal.returns-in-Ok-Amc
unfolding is_size
returns-in-Ok-Amc c = search (by_name, rules)

pub returns-in-Ok-Fusc : goal.returns-in-Ok-Fusc
unfolding is_size
returns-in-Ok-Fusc c = search (by_name, rules)

pub returns-in-Err : goal.returns-in-Err
unfolding is_size
returns-in-Err c = search (by_name, rules)
