-- `formulas::is_pilot` meets its contract.
use Rattle.base.proofs.Prelude.{arith, rules}
use Rattle.modes.proofs.{ByMode.few, Named.by_name}
use Rattle.formulas.specs.Formula.{is_pilot}
use Rattle.formulas.proofs.is_pilot.Goals as goal

-- a used number is small
pub is_pilot-requires-in-Ok-Fusc : goal.is_pilot-requires-in-Ok-Fusc
is_pilot-requires-in-Ok-Fusc c = let p = c.requires in omega (arith, few p.valid.ranged, p.used_bound)

pub returns-in-Ok-PuscDl : goal.returns-in-Ok-PuscDl
unfolding is_pilot
returns-in-Ok-PuscDl c = search (by_name, rules)

pub returns-in-Ok-PuscUl : goal.returns-in-Ok-PuscUl
unfolding is_pilot
returns-in-Ok-PuscUl c = search (by_name, rules)

pub returns-in-Ok-Ofusc : goal.returns-in-Ok-Ofusc
unfolding is_pilot
returns-in-Ok-Ofusc c = search (by_name, rules)

pub returns-in-Ok-Amc : goal.returns-in-Ok-Amc
unfolding is_pilot
returns-in-Ok-Amc c = search (by_name, rules)

pub returns-in-Ok-Fusc : goal.returns-in-Ok-Fusc
unfolding is_pilot
returns-in-Ok-Fusc c = search (by_name, rules)

pub returns-in-Err : goal.returns-in-Err
unfolding is_pilot
returns-in-Err c = search (by_name, rules)
