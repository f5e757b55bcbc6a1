-- `modes::cells` meets its contract.
use Rattle.base.proofs.Prelude.{mul-le-mul, arith, rules}
use Rattle.modes.specs.Mode.{width_of, cells_of}
use Rattle.modes.proofs.Named.{by_name}
use Rattle.modes.proofs.cells.Goals as goal

pub overflow_mul-result : goal.overflow_mul-result
unfolding width_of
overflow_mul-result c = omega (arith, mul-le-mul {n₁ = c.width.result} {m₁ = c.width-in-Ok-Ofusc.result} {n₂ = 32} {m₂ = 32} (omega arith) (omega arith))

pub returns-in-Ok-PuscDl : goal.returns-in-Ok-PuscDl
unfolding cells_of
returns-in-Ok-PuscDl c = search (by_name, rules)

pub returns-in-Ok-PuscUl : goal.returns-in-Ok-PuscUl
unfolding cells_of
returns-in-Ok-PuscUl c = search (by_name, rules)

pub returns-in-Ok-Ofusc : goal.returns-in-Ok-Ofusc
unfolding cells_of
returns-in-Ok-Ofusc c = rw (c.width.ensures, c.width-in-Ok-Ofusc.ensures) (search (by_name, rules))

pub returns-in-Ok-Amc : goal.returns-in-Ok-Amc
unfolding cells_of
returns-in-Ok-Amc c = search (by_name, rules)

pub returns-in-Ok-Fusc : goal.returns-in-Ok-Fusc
unfolding cells_of
returns-in-Ok-Fusc c = search (by_name, rules)

pub returns-in-Err : goal.returns-in-Err
unfolding cells_of
returns-in-Err c = search (by_name, rules)
