-- `carriers::used_numbers` meets its contract.
use Rattle.base.proofs.{Tabulate.{Written}}
use Rattle.base.specs.Steps.{entry}
use Rattle.carriers.specs.Bin.{used_of_data}
use Rattle.carriers.proofs.used_numbers.Given as goal

abbrev pub invariant-loop-m : goal.invariant-loop-m
invariant-loop-m l = Written 48 (λ k. used_of_data l.y (entry l.numbers k)) l.row l.m
