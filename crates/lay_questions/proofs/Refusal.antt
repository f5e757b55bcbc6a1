-- What the questions of lay come to.
use Rattle.base.proofs.Prelude.{◌≡◌, sym, ap, ◌∙◌, true, false, [], ◌∷◌, ◌++◌, ℕ, ◌*◌, ◌<◌, lt-ltb, eq-eqb, ltb-true, eqb-true}
use Rattle.base.proofs.{Test.both_true, Chain.{numbered, Questions, all_numbered, all_yes, yes_parts}}
use Rattle.base.specs.Answer.{Answer, refusal_of}
use Rattle.modes.specs.{Setup.Setup, Mode.subchannels, Question.{is_slot, is_subchannel, is_lent}}
use Rattle.mask.specs.Mask.{is_lit}
use Rattle.lengths.specs.Length.{grid_points}
use Rattle.lengths.proofs.Refusal.{MaskAccepted, mask_passes}
use Rattle.questions.specs.Question.{is_grid}
use Rattle.questions.proofs.Refusal.{slot_questions, GroundAccepted, grid_accepted}
use Rattle.lay_questions.specs.{Question.{is_lit_subchannel, are_laid_points, ask_lay}, Model.lay_refusal}

pub record LayAccepted (setup : Setup) (mask slot subchannel points grid : ℕ) : Type 0 where
  pub fits : GroundAccepted setup mask slot grid
  pub subchannel_lt : subchannel < subchannels setup
  pub subchannel_lit : is_lit setup mask subchannel ≡ true
  pub points_long : points ≡ 96

module _ (setup : Setup) (mask slot subchannel points grid : ℕ) where
  abbrev lay_own : Questions
  lay_own = (is_lit_subchannel setup mask subchannel, 5) ∷ (is_lent setup, 20) ∷ (are_laid_points points, 8) ∷ (is_grid setup grid, 9) ∷ []

  pub lay_numbered : {A : Type 0} (rest : Answer A) → ask_lay setup mask slot subchannel points grid rest ≡ numbered (lay_refusal setup mask slot subchannel points grid) rest
  unfolding lay_refusal
  lay_numbered = all_numbered (slot_questions setup mask slot ++ lay_own) tt

  pub lay_accepted : (k : ℕ) → k ≡ lay_refusal setup mask slot subchannel points grid → k ≡ 0 → LayAccepted setup mask slot subchannel points grid
  unfolding lay_refusal is_lit_subchannel is_subchannel are_laid_points
  lay_accepted k e z =
      let y = yes_parts (slot_questions setup mask slot) lay_own (all_yes (slot_questions setup mask slot ++ lay_own) tt (sym e ∙ z)) in
      let own = both_true (is_subchannel setup subchannel) (is_lit setup mask subchannel) y.1.0 in
      record {
        fits = grid_accepted grid y.0 y.1.1.0 y.1.1.1.1.0;
        subchannel_lt = ltb-true subchannel (subchannels setup) own.0;
        subchannel_lit = own.1;
        points_long = eqb-true points 96 y.1.1.1.0;
      }

  pub lay_0 : LayAccepted setup mask slot subchannel points grid → 0 ≡ lay_refusal setup mask slot subchannel points grid
  unfolding lay_refusal is_slot is_lit_subchannel is_subchannel are_laid_points is_grid
  lay_0 a =
      rw (lt-ltb slot 512 a.fits.slot_lt, lt-ltb subchannel (subchannels setup) a.subchannel_lt, a.subchannel_lit, a.fits.lit.valid.is-lent, eq-eqb points 96 a.points_long, eq-eqb grid (2 * grid_points setup) a.fits.grid_long)
      (sym (ap refusal_of (mask_passes setup mask a.fits.lit)))

  pub lay_unlit : MaskAccepted setup mask → slot < 512 → subchannel < subchannels setup → is_lit setup mask subchannel ≡ false → 5 ≡ lay_refusal setup mask slot subchannel points grid
  unfolding lay_refusal is_slot is_lit_subchannel is_subchannel
  lay_unlit a h l dark = rw (lt-ltb slot 512 h, lt-ltb subchannel (subchannels setup) l, dark) (sym (ap refusal_of (mask_passes setup mask a)))
