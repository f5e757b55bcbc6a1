-- `empty::empty_first` meets its contract.
use Rattle.base.proofs.Prelude.{refl, sym}
use Rattle.refusal.proofs.Asked.{refusal_on, number_ne0}
use Rattle.lengths.proofs.Refusal.{mask_few}
use Rattle.questions.proofs.Refusal.{empty_numbered, empty_accepted}
use Rattle.empty.specs.Empty.{empty_first_of}
use Rattle.grid.proofs.Outcome.{refused_leaves, accepted_anew}
use Rattle.empty.proofs.empty_first.Goals as goal

pub returns-in_err-ask_empty : goal.returns-in_err-ask_empty
unfolding empty_first_of
returns-in_err-ask_empty c =
    rw (refusal_on _ _ c.from_residual.ensures.1) (refused_leaves _ _ _ (empty_numbered _ _ _ _ _ _) _ _ c.in_err-ask_empty.ensures (number_ne0 _))

pub take_off-requires : goal.take_off-requires
take_off-requires c =
    let a = empty_accepted _ _ _ _ _ 0 c.in_ok-ask_empty.ensures refl in
    record { valid = a.fits.lit.valid; mask_bound = (mask_few a.fits.lit, a.fits.slot_lt, a.points_long, a.fits.grid_long) }

pub returns : goal.returns
unfolding empty_first_of
returns c = accepted_anew _ _ _ (empty_numbered _ _ _ _ _ _) _ (sym c.in_ok-ask_empty.ensures) _ c.take_off.ensures
