-- `capi_bursts::bp_burst_owners` meets its contract.
use Rattle.base.proofs.Prelude.{◌≡◌, ap}
use Rattle.c_boundary.specs.Row.{row_out}
use Rattle.capi_bursts.proofs.Burst.{row_no, row_yes}
use Rattle.capi_bursts.proofs.bp_burst_owners.Goals as goal

pub returns-in-None : goal.returns-in-None
returns-in-None c = row_yes _ _ c.in-None.is (rw c.zone-of.ensures at c.owners-found.ensures)

pub returns-in-Some : goal.returns-in-Some
returns-in-Some c = row_no _ _ _ c.in-Some.is c.from.ensures (rw c.zone-of.ensures at c.owners-found.ensures)
