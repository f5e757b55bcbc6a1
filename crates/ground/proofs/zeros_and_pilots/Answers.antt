use Rattle.base.proofs.Prelude.{sym, ◌∙◌, ◌<◌}
use Rattle.modes.specs.{Setup.alone, Mode.symbols, Model.own}
use Rattle.modes.proofs.{Lent.valid_alone}
use Rattle.ground.proofs.Pilots.{ground_start, ground_next, ground_done}
use Rattle.ground.proofs.zeros_and_pilots.Goals as goal

pub loop-row-init : goal.loop-row-init
loop-row-init c =
    ground_start _ (valid_alone c.requires.unlent) _ _ _ _ c.requires.mask_bound.2 _ c.clear.ensures

-- a row of the slot
row_lt : (c : goal.After-pilot_row-arg-1) → c.loop-row.row < symbols (alone c.args.setup)
row_lt c = rw c.symbols-symbols.ensures at c.loop-row-test.true

row_lt_2 : (c : goal.After-slice_known-in-loop-row-1) → c.loop-row.row < symbols (alone c.args.setup)
row_lt_2 c = rw c.symbols-symbols.ensures at c.loop-row-test.true

pub pilot_row-requires : goal.pilot_row-requires
pilot_row-requires c =
    record { unlent = c.requires.unlent; slot_bound = (c.requires.mask_bound.1, row_lt c, c.loop-row.invariant.long); lit_runs = c.lit_runs-lit.ensures }

pub lit_runs-lit-requires : goal.lit_runs-lit-requires
lit_runs-lit-requires c = record { ranged = own c.requires.unlent; mask_bound = c.requires.mask_bound.0 }

pub loop-row-preserved : goal.loop-row-preserved
loop-row-preserved c = ground_next _ (valid_alone c.requires.unlent) _ _ _ c.loop-row.invariant (row_lt_2 c) _ c.pilot_row.ensures

pub shape_of-grid : goal.shape_of-grid
shape_of-grid c = c.loop-row.invariant.long ∙ sym c.requires.mask_bound.2

pub returns : goal.returns
returns c = ground_done _ (valid_alone c.requires.unlent) _ _ _ c.loop-row.invariant c.requires.mask_bound.1 (rw c.symbols-symbols.ensures at c.loop-row-test.false)
