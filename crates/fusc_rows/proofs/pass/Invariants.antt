-- `fusc_rows::pass` meets its contract.
use Rattle.fusc_rows.specs.Model.{Passed}
use Rattle.fusc_rows.proofs.pass.Given as goal

abbrev pub invariant-loop-j : goal.invariant-loop-j
invariant-loop-j l = Passed l.pilots l.d l.j
