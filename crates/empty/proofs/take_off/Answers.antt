-- `empty::take_off` meets its contract.
use Rattle.base.proofs.Prelude.{sym, ap, ◌∙◌}
use Rattle.modes.specs.Setup.{Setup}
use Rattle.modes.proofs.{ByMode.ranged_alone, Lent.{nothing_lent, own_pilots}, Named.{is_number, not_number}}
use Rattle.empty.specs.Empty.{emptied_first}
use Rattle.empty.proofs.{Rows.symbol_done}
use Rattle.empty.proofs.take_off.Goals as goal

pub empty_symbol-requires : goal.empty_symbol-requires
empty_symbol-requires c = record { valid = c.requires.valid; mode_value = (is_number _ 7 c.takes_list.ensures c.if-takes_list.true, c.requires.mask_bound.2, c.requires.mask_bound.3) }

pub returns-then-takes_list : goal.returns-then-takes_list
returns-then-takes_list c =
    let a = c.args in
    symbol_done c.requires.valid a.mask a.slot a.carriers a.grid.now a.points.now (is_number _ 7 c.takes_list.ensures c.if-takes_list.true) c.empty_symbol.ensures c.requires.mask_bound.2

pub empty_rows-requires : goal.empty_rows-requires
empty_rows-requires c = record { unlent = own_pilots (ranged_alone c.requires.valid) (not_number _ 7 c.takes_list.ensures c.if-takes_list.false); mask_bound = c.requires.mask_bound }

-- in the modes that take no list nothing is lent
pub returns : goal.returns
returns c =
    let a = c.args in
    c.empty_rows.ensures
    ∙ ap (λ (s : Setup). emptied_first s a.mask a.slot a.carriers a.grid.now a.points.now)
    (sym (nothing_lent c.requires.valid (not_number _ 7 c.takes_list.ensures c.if-takes_list.false)))
