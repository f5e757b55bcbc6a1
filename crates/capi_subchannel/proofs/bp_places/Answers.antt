-- `capi_subchannel::bp_places` meets its contract.
use Rattle.base.proofs.Prelude.{refl}
use Rattle.refusal.proofs.Asked.{number_ne0}
use Rattle.c_boundary.proofs.Row.{row_no, row_yes}
use Rattle.capi_subchannel.proofs.bp_places.Goals as goal

pub returns-in-Err : goal.returns-in-Err
returns-in-Err c =
    rw (c.from.ensures, ← (rw c.setup-of.ensures at c.row-found.ensures), c.in-Err.is) (row_no _ _ _ (number_ne0 _))

pub returns-in-Ok : goal.returns-in-Ok
returns-in-Ok c = rw (← (rw c.setup-of.ensures at c.row-found.ensures), c.in-Ok.is) (row_yes _ _ _ refl)
