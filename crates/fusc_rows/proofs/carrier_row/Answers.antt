use Rattle.base.proofs.{Prelude.{sym, ap, ◌∙◌}, Tabulate.{written_next}}
use Rattle.carriers.specs.Band.{fusc_band, carrier_of}
use Rattle.pilot_list.specs.List.{used_of_data}
use Rattle.fusc_rows.proofs.Turn.{turn_in, turn_on}
use Rattle.fusc_rows.proofs.carrier_row.Goals as goal

pub pass-j-requires-clause-passed : goal.pass-j-requires-clause-passed
pass-j-requires-clause-passed c = turn_in _ _ _ _ _ _ c.turn_number-d.ensures c.loop-n.invariant.0

pub loop-n-preserved : goal.loop-n-preserved
loop-n-preserved c =
    let number = c.turn_number-d.ensures in (
      turn_on _ _ _ _ _ _ number c.pass-j.ensures.0,
      written_next c.loop-n.invariant.1 c.loop-n-test.true _
          (c.column.ensures ∙ ap (carrier_of fusc_band) (sym c.pass-j.ensures.1 ∙ ap (used_of_data _) number)),
    )
