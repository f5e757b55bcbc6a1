use Rattle.base.proofs.Prelude.{◌∙◌, rules}
use Rattle.modes.specs.{Model.own}
use Rattle.modes.proofs.Lent.{valid_alone}
use Rattle.empty.proofs.Rows.{slot-start, slot_next, slot_done}
use Rattle.empty.proofs.empty_rows.Goals as goal

pub empty_row-requires : goal.empty_row-requires
empty_row-requires c =
    record { unlent = c.requires.unlent; slot_bound = (c.requires.mask_bound.1, rw c.symbols-symbols.ensures at c.loop-row-test.true, c.loop-row.invariant.1.long ∙ c.requires.mask_bound.2, c.requires.mask_bound.3); lit_runs = (c.lit_runs-lit.ensures, c.run_table-runs.ensures, c.place_table-places.ensures) }

pub loop-row-preserved : goal.loop-row-preserved
loop-row-preserved c =
    slot_next (valid_alone c.requires.unlent) c.args.mask c.args.slot c.args.carriers c.args.grid.now c.args.points.now c.loop-row.invariant (rw c.symbols-symbols.ensures at c.loop-row-test.true) _ c.empty_row.ensures

pub returns : goal.returns
returns c =
    slot_done (valid_alone c.requires.unlent) c.args.mask c.args.slot c.args.carriers c.args.grid.now c.args.points.now c.loop-row.invariant (rw c.symbols-symbols.ensures at c.loop-row-test.false) c.requires.mask_bound.2

pub lit_runs-lit-requires : goal.lit_runs-lit-requires
lit_runs-lit-requires c = search (own, rules)

pub loop-row-init : goal.loop-row-init
loop-row-init c = slot-start (valid_alone c.requires.unlent) c.args.mask c.args.slot c.args.carriers c.args.grid.now c.args.points.now

pub shape_of-points : goal.shape_of-points
shape_of-points c = c.loop-row.invariant.1.long
