-- `modes::symbols` meets its contract.
use Rattle.base.proofs.Prelude.{rules}
use Rattle.modes.specs.Mode.{symbols_of}
use Rattle.modes.proofs.Named.{by_name, shape_named}
use Rattle.modes.proofs.symbols.Goals as goal

pub returns-in-Ok-PuscDl : goal.returns-in-Ok-PuscDl
unfolding symbols_of
returns-in-Ok-PuscDl c = search (by_name, rules)

pub returns-in-Ok-PuscUl : goal.returns-in-Ok-PuscUl
unfolding symbols_of
returns-in-Ok-PuscUl c = search (by_name, rules)

pub returns-in-Ok-Ofusc : goal.returns-in-Ok-Ofusc
unfolding symbols_of
returns-in-Ok-Ofusc c = search (by_name, rules)

pub returns-in-Ok-Amc : goal.returns-in-Ok-Amc
unfolding symbols_of
returns-in-Ok-Amc c = rw (shape_named _ _ c.try_from.ensures _ c.in-Ok-Amc.is c.in-Ok-Amc.field-0-is) (search (by_name, rules))

pub returns-in-Ok-Fusc : goal.returns-in-Ok-Fusc
unfolding symbols_of
returns-in-Ok-Fusc c = search (by_name, rules)

pub returns-in-Err : goal.returns-in-Err
unfolding symbols_of
returns-in-Err c = search (by_name, rules)
