-- `ground::zeros_and_pilots` meets its contract.
use Rattle.modes.specs.{Setup.alone}
use Rattle.ground.proofs.Pilots.{GroundTurn}
use Rattle.ground.proofs.zeros_and_pilots.Given as goal

abbrev pub invariant-loop-row : goal.invariant-loop-row
invariant-loop-row l = GroundTurn (alone l.setup) l.mask l.slot l.p l.grid l.row
