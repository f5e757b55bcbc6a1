-- `places::in_order` meets its contract.
use Rattle.base.proofs.{Prelude.{◌<◌}, Tabulate.{Written}}
use Rattle.copies.specs.Model.{turned}
use Rattle.places.proofs.in_order.Given as goal

abbrev pub invariant-loop-m : goal.invariant-loop-m
invariant-loop-m l = (l.by < 48) × Written 48 (turned l.row l.by) l.places l.m
