-- `ground::ground` meets its contract.
use Rattle.base.proofs.Prelude.{◌≡◌, refl, sym, ap, ◌∙◌, List, ℕ, length}
use Rattle.refusal.proofs.Asked.{refusal_on, number_ne0}
use lib.Ieee.{Float}
use Rattle.points.specs.declared.Point.{Point}
use Rattle.modes.specs.Setup.{Setup}
use Rattle.modes.proofs.{ByMode.ranged_alone, Lent.{nothing_lent, own_pilots}, Named.{is_number, not_number}}
use Rattle.lengths.proofs.Refusal.{mask_few}
use Rattle.questions.proofs.Refusal.{GroundAccepted, ground_numbered, ground_accepted}
use Rattle.ground.specs.Ground.{grounded, ground_of}
use Rattle.grid.proofs.{Outcome.{refused_leaves, accepted_anew}, Slot.floats_long}
use Rattle.ground.proofs.ground.Goals as goal

pub returns-in_err-ask_ground : goal.returns-in_err-ask_ground
unfolding ground_of
returns-in_err-ask_ground c =
    rw (refusal_on _ _ c.from_residual.ensures.1) (refused_leaves _ _ _ (ground_numbered _ _ _ _ _) _ _ c.in_err-ask_ground.ensures (number_ne0 _))

-- a ground has its grid's length
long : {setup : Setup} {mask slot n : ℕ} → GroundAccepted setup mask slot n → (s : Setup) → s.mode ≡ setup.mode → s.size ≡ setup.size
    → (p : Point) (grid : List Float) → grid ≡ grounded s mask slot p → length grid ≡ n
unfolding grounded
long a s em es p grid e = ap length e ∙ floats_long s _ ∙ rw (em, es) (sym a.grid_long)

pub zeros_and_list-requires : goal.zeros_and_list-requires
zeros_and_list-requires c =
    let a = ground_accepted _ _ _ _ 0 c.in_ok-ask_ground.ensures refl in
    record { valid = a.lit.valid; mode_value = (is_number _ 7 c.takes_list.ensures c.if-takes_list.true, a.slot_lt, a.grid_long) }

pub returns-then-takes_list : goal.returns-then-takes_list
unfolding ground_of
returns-then-takes_list c = accepted_anew _ _ _ (ground_numbered _ _ _ _ _) _ (sym c.in_ok-ask_ground.ensures) _ c.zeros_and_list.ensures

pub zeros_and_pilots-requires : goal.zeros_and_pilots-requires
zeros_and_pilots-requires c =
    let a = ground_accepted _ _ _ _ 0 c.in_ok-ask_ground.ensures refl in
    record { unlent = own_pilots (ranged_alone a.lit.valid) (not_number _ 7 c.takes_list.ensures c.if-takes_list.false); mask_bound = (mask_few a.lit, a.slot_lt, a.grid_long) }

-- in the modes that take no list nothing is lent
pub returns : goal.returns
unfolding ground_of
returns c =
    let a = c.args in
    let asked = ground_accepted _ _ _ _ 0 c.in_ok-ask_ground.ensures refl in
    accepted_anew _ _ _ (ground_numbered _ _ _ _ _) _ (sym c.in_ok-ask_ground.ensures) _
    (c.zeros_and_pilots.ensures ∙ ap (λ (s : Setup). grounded s a.mask a.slot a.pilot) (sym (nothing_lent asked.lit.valid (not_number _ 7 c.takes_list.ensures c.if-takes_list.false))))

pub shape_of-grid-then-takes_list : goal.shape_of-grid-then-takes_list
shape_of-grid-then-takes_list c = long (ground_accepted _ _ _ _ 0 c.in_ok-ask_ground.ensures refl) _ refl refl _ _ c.zeros_and_list.ensures

pub shape_of-grid : goal.shape_of-grid
shape_of-grid c = long (ground_accepted _ _ _ _ 0 c.in_ok-ask_ground.ensures refl) _ refl refl _ _ c.zeros_and_pilots.ensures
