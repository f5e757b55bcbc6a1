use Rattle.base.proofs.{Prelude.{ap, ◌∙◌}, Tabulate.{written_next}}
use Rattle.carriers.specs.Band.{fusc_band, carrier_of}
use Rattle.fusc_rows.proofs.Columns.{moved_on}
use Rattle.fusc_rows.proofs.data_carriers.Goals as goal

pub loop-d-preserved : goal.loop-d-preserved
loop-d-preserved c =
    let h = c.loop-d-test.true in
    let on = moved_on _ _ _ _ _ c.requires c.moves-table.ensures h c.loop-d.invariant.0 c.from-passed.ensures in
    (on.next, written_next c.loop-d.invariant.1 h _ (c.column.ensures ∙ ap (carrier_of fusc_band) on.used_is))
