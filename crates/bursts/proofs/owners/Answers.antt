-- `bursts::owners` meets its contract.
use Rattle.base.specs.{Answer.refusal_of, Tabulate.tabulate}
use Rattle.base.proofs.Prelude.{refl, sym, ap}
use Rattle.bursts.specs.Owner.{row_at, owners_of}
use Rattle.bursts.proofs.Answer.{owners_passed, zone_accepted, row_no, row_yes}
use Rattle.bursts.proofs.owners.Goals as goal

pub marked_row-requires : goal.marked_row-requires
marked_row-requires c = let p = owners_passed _ _ _ _ (sym (ap refusal_of c.in-Ok.ensures)) in zone_accepted _ _ _ (sym p.0) refl (sym p.2)

pub returns-in-Ok : goal.returns-in-Ok
unfolding owners_of
returns-in-Ok c = row_yes _ _ _ _ refl (sym (owners_passed _ _ _ _ (sym (ap refusal_of c.in-Ok.ensures))).2) _ _ c.marked_row.ensures _ c.in-Ok.ensures

pub returns-in-Err : goal.returns-in-Err
unfolding owners_of tabulate
returns-in-Err c = let a = c.args in row_no (row_at a.size a.zone a.slot a.bursts.now) _ _ c.in-Err.ensures
