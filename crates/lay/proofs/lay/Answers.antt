-- `lay::lay` meets its contract.
use Rattle.base.proofs.Prelude.{refl, sym, ◌∙◌, arith}
use Rattle.refusal.proofs.Asked.{refusal_on, number_ne0}
use Rattle.lay_questions.proofs.Refusal.{lay_numbered, lay_accepted}
use Rattle.lay.specs.Lay.{lay_of}
use Rattle.grid.proofs.{Outcome.{refused_leaves, accepted_anew}, Slot.{row_within, row_laid}}
use Rattle.lay.proofs.{Laid.laid_is}
use Rattle.lay.proofs.lay.Goals as goal

pub returns-in_err-ask_lay : goal.returns-in_err-ask_lay
unfolding lay_of
returns-in_err-ask_lay c =
    rw (refusal_on _ _ c.from_residual.ensures.1) (refused_leaves _ _ _ (lay_numbered _ _ _ _ _ _ _) _ _ c.in_err-ask_lay.ensures (number_ne0 _))

pub subchannel_row-row-requires : goal.subchannel_row-row-requires
subchannel_row-row-requires c =
    let a = lay_accepted _ _ _ _ _ _ 0 c.in_ok-ask_lay.ensures refl in
    record { valid = a.fits.lit.valid; subchannel_bound = a.subchannel_lt }

pub lay_row-requires : goal.lay_row-requires
lay_row-requires c =
    let a = lay_accepted _ _ _ _ _ _ 0 c.in_ok-ask_lay.ensures refl in
    let row = c.subchannel_row-row in
    (row.ensures.0, omega (arith, a.points_long), row_within a.fits.lit.valid _ _ a.subchannel_lt row.result row.ensures _ a.fits.grid_long)

pub returns : goal.returns
unfolding lay_of
returns c =
    let a = lay_accepted _ _ _ _ _ _ 0 c.in_ok-ask_lay.ensures refl in
    let row = c.subchannel_row-row in
    accepted_anew _ _ _ (lay_numbered _ _ _ _ _ _ _) _ (sym c.in_ok-ask_lay.ensures) _
    (row_laid a.fits.lit.valid _ _ a.subchannel_lt row.result row.ensures _ _ _ c.lay_row.ensures
    ∙ laid_is _ a.fits.lit.valid _ _ a.fits.slot_lt _ a.subchannel_lt a.subchannel_lit _ _ a.fits.grid_long)
