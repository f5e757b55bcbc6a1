-- What a yes to all of a zone's questions says: its setup is in range, its values are small.
use Rattle.std.specs.Prelude.{Option, None}
use Rattle.base.proofs.Prelude.{◌≡◌, sym, true, false, [], ◌∷◌, ℕ, ◌<◌, ◌≤◌, mul-le-mul, arith, eqb, ltb, eqb-true, lt-ltb}
use Rattle.base.proofs.{Chain.{AllYes, all_yes, yes_parts}, Test.{cases, both_true, true_false, up_to}}
use Rattle.base.specs.Choice.{pick}
use Rattle.modes.specs.{Setup.Setup, Question.{is_mode, is_size}, Model.{pusc-dl, pusc-ul, ofusc, amc, Ranged, own, fusc}}
use Rattle.modes.proofs.{Accept.ranged_by, ByMode.few}
use Rattle.mask.proofs.Law.{mask_small}
use Rattle.zone.specs.{declared.Zone.Zone}
use Rattle.zone.specs.Zone.{is_zone_mode, setup_of, is_opening, is_order, fields_refusal, unused, is_unused}
use Rattle.zone.specs.Model.{Small}
use Rattle.zone.proofs.Number.{field_questions, zone_questions}

ranged_small : {c : Setup} → Ranged c → c.size ≤ 2048 → (c.mode < 8) × (c.cell < 2352)
ranged_small (own (pusc-dl h)) l = omega arith
ranged_small (own (pusc-ul h)) l = omega arith
ranged_small (own (ofusc {n = n} w h)) l = omega (arith, mul-le-mul {n₁ = n} {m₁ = n} {n₂ = 32} {m₂ = 32} (omega arith) (omega arith))
ranged_small (own (amc q w h)) l = omega arith
ranged_small (fusc h) l = omega arith

zone_mode : (m : ℕ) → is_zone_mode m ≡ true → ltb m 8 ≡ true
unfolding is_zone_mode
zone_mode m e = cases (eqb m 1) (λ t. lt-ltb m 8 (omega (arith, eqb-true m 1 t))) (λ f. rw f at e)

module _ (size : ℕ) (z : Zone) where
  module _ (y : AllYes (field_questions size z)) where
    own_ranged : Ranged (setup_of size z)
    unfolding is_mode
    own_ranged = ranged_by (setup_of size z) (zone_mode z.mode y.0) y.1.0 y.1.1.0

    own_small : Small z
    own_small =
        let most = ranged_small own_ranged (few own_ranged).size_few in
        record { mode_most = most.0; cell_most = most.1; slots_most = up_to 512 z.slots y.1.1.1.0; mask_most = omega (arith, mask_small z.mode z.mask y.1.1.1.1.0) }

  pub small : (before : Option ℕ) → AllYes (zone_questions size before z) → Small z
  small before y = own_small (yes_parts (field_questions size z) ((is_order before size z, 14) ∷ []) y).0

  -- Document 02, wish 8: mode 7 never opens a plan. By question 2 its size is 2048, and there question 14 has mode 0 first.
  pub fusc_not_first : AllYes (zone_questions size None z) → z.mode ≡ 7 → ⊥
  unfolding is_size is_opening
  fusc_not_first y e =
      let p = yes_parts (field_questions size z) ((is_order None size z, 14) ∷ []) y in
      let full : eqb size 2048 ≡ true = rw e at p.0.1.0 in
      true_false (sym (rw (full, e) at p.1.0))

  module _ (e : fields_refusal size z ≡ 0) where
    fields_yes : AllYes (field_questions size z)
    unfolding fields_refusal
    fields_yes = all_yes (field_questions size z) tt e

    pub fields_ranged : Ranged (setup_of size z)
    fields_ranged = own_ranged fields_yes

    pub fields_slots : z.slots ≤ 512
    fields_slots = (own_small fields_yes).slots_most

-- an unused place is all zero
pub unused_is : (z : Zone) → is_unused z ≡ true → unused ≡ z
unfolding is_unused
unused_is z e =
    let h = both_true (eqb z.mode 0) (pick (eqb z.cell 0) (pick (eqb z.slots 0) (eqb z.mask 0) false) false) e in
    let k = both_true (eqb z.cell 0) (pick (eqb z.slots 0) (eqb z.mask 0) false) h.1 in
    let l = both_true (eqb z.slots 0) (eqb z.mask 0) k.1 in
    rw (eqb-true z.mode 0 h.0, eqb-true z.cell 0 k.0, eqb-true z.slots 0 l.0, eqb-true z.mask 0 l.1)

pub small_unused : Small unused
small_unused = omega arith
