-- `point_numbers::put_run` meets its contract.
use Rattle.base.proofs.{Prelude.{◌+◌}, Tabulate.{WrittenOver}}
use Rattle.base.specs.Steps.{entry}
use Rattle.point_numbers.proofs.put_run.Given as goal

abbrev pub invariant-loop-j : goal.invariant-loop-j
invariant-loop-j l = WrittenOver 0 1680 12 (λ k. l.from + k) (entry l.own) l.initial.numbers l.numbers l.j
