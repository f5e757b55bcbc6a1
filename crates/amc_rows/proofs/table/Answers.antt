use Rattle.base.proofs.{Prelude.{refl, ◌∙◌, arith}, Tabulate.{written_next}}
use Rattle.amc_rows.proofs.{Row.table_entry}
use Rattle.amc_rows.proofs.table.Goals as goal

pub loop-i-preserved : goal.loop-i-preserved
loop-i-preserved c =
    written_next c.loop-i.invariant (omega arith) _
    (c.first_carrier.ensures ∙ table_entry _ c.requires.0 _ c.requires.1 c.args.slot _ _ _ _ _ refl c.sequence_place.ensures)
