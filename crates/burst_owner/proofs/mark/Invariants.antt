-- `burst_owner::mark` meets its contract.
use Rattle.base.proofs.{Prelude.{◌+◌, ◌≤◌}}
use Rattle.burst_owner.proofs.Row.{Marking}
use Rattle.burst_owner.proofs.mark.Given as goal

abbrev pub invariant-loop-m : goal.invariant-loop-m
invariant-loop-m l = (l.first + l.many ≤ 192) × Marking l.first l.many l.value l.initial.row l.row l.m
