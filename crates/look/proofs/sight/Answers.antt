-- `look::sight` meets its contract.
use Rattle.look.specs.Look.{sight}
use Rattle.look.proofs.sight.Goals as goal

pub returns-in-Guard : goal.returns-in-Guard
unfolding sight
returns-in-Guard c = rw c.in-Guard.is

pub returns-in-Dc : goal.returns-in-Dc
unfolding sight
returns-in-Dc c = rw c.in-Dc.is

pub returns-in-Pilot : goal.returns-in-Pilot
unfolding sight
returns-in-Pilot c = rw c.in-Pilot.is

pub returns-in-Data : goal.returns-in-Data
unfolding sight
returns-in-Data c = rw c.in-Data.is
