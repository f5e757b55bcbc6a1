-- A spot's carrier by sums of steps.
use Rattle.base.proofs.Prelude.{◌≡◌, ◌%◌, ◌<◌, arith}
use Rattle.base.specs.Steps.{skip}
use Rattle.carriers.specs.{declared.Band.Band, declared.Spot.Spot, Band.carrier_of, Model.{spot_number, carrier_number, carrier_step}}

pub step_carrier : (b : Band) (x : Spot) → x.used < 2048 → carrier_step b (spot_number x) ≡ carrier_number 2048 b x
unfolding carrier_step carrier_of skip
step_carrier b x h = let e : spot_number x % 2048 ≡ x.used = omega arith in rw e (omega arith)
