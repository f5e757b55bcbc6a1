-- `ground::list_pilots` meets its contract.
use Rattle.base.specs.Steps.{entry}
use Rattle.carriers.specs.Band.{carrier_of}
use Rattle.points.proofs.Copy.{Putting}
use Rattle.ground.proofs.list_pilots.Given as goal

abbrev pub invariant-loop-i : goal.invariant-loop-i
invariant-loop-i l = Putting (λ j. carrier_of l.band (entry l.pilots j)) (λ j. l.p) 166 l.initial.grid l.grid l.i
