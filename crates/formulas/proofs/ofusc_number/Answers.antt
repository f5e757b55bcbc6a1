-- `formulas::ofusc_number` meets its contract.
use Rattle.formulas.proofs.{Asks.ofusc_asks}
use Rattle.formulas.proofs.ofusc_number.Goals as goal

pub invariant_of-width : goal.invariant_of-width
invariant_of-width c =
    let p = c.requires in
    record { is_width = (ofusc_asks p.ranged _ c.width.ensures _ _ p.mode_value.1 p.mode_value.2 p.mode_value.0).0 }

pub data_number-requires : goal.data_number-requires
data_number-requires c =
    let p = c.requires in
    record { cell_bound = (ofusc_asks p.ranged _ c.width.ensures _ _ p.mode_value.1 p.mode_value.2 p.mode_value.0).1 }

pub returns : goal.returns
returns c = rw (c.data_number.ensures, c.width.ensures)
