-- The questions put to a zone as lists, and what they come to by what the functions that put them say.
use Rattle.std.specs.Prelude.{Option}
use Rattle.base.proofs.{Prelude.{◌≡◌, refl, sym, ◌∙◌, Bool, true, false, [], ◌∷◌, ◌++◌, ℕ, eqb}, Chain.{Questions, is_refused, has_passed}, Test.true_false}
use mathlib.Core.Bool.{not}
use Rattle.base.specs.Answer.{Answer, accepted, refused, ask, refusal_of}
use Rattle.refusal.specs.{declared.Refusal.Refusal, Refusal.number_of}
use Rattle.refusal.proofs.Asked.{number_ne0, asked_no, asked_yes}
use Rattle.modes.specs.Question.{is_mode, is_size, is_cell, ask_setup}
use Rattle.mask.specs.Mask.{is_mask}
use Rattle.zone.specs.{declared.Zone.Zone}
use Rattle.zone.specs.{Zone.{is_zone_mode, setup_of, is_slots, is_order, ask_fields, fields_refusal, ask_zone}, Model.zone_refusal}

not_true : {b : Bool} → not b ≡ true → b ≡ false
not_true {b = true} e = absurd (true_false (sym e))
not_true {b = false} e = refl

not_false : {b : Bool} → not b ≡ false → b ≡ true
not_false {b = true} e = refl
not_false {b = false} e = absurd (true_false e)

-- the questions put to a zone's own values
module _ (size : ℕ) (z : Zone) where
  abbrev pub field_questions : Questions
  field_questions = (is_zone_mode z.mode, 1) ∷ (is_size (setup_of size z), 2) ∷ (is_cell (setup_of size z), 3) ∷ (is_slots z.slots, 13) ∷ (is_mask z.mode z.mask, 17) ∷ []

  module _ {n : ℕ} where
    pub fields_uplink : refused n ≡ ask {A = Unit {0}} (not (eqb z.mode 1)) 1 (accepted tt) → n ≡ fields_refusal size z
    unfolding fields_refusal is_zone_mode
    fields_uplink h = let p = asked_no _ 1 n h in rw (p.1, not_false p.0)

    -- In any mode but 1 a zone's own questions are the map's first three, then 13 and 17.
    pub fields_other : {x : Unit {0}} → accepted x ≡ ask (not (eqb z.mode 1)) 1 (accepted tt)
        → n ≡ refusal_of (ask_setup {A = Unit {0}} (setup_of size z) (ask (is_slots z.slots) 13 (ask (is_mask z.mode z.mask) 17 (accepted tt)))) → n ≡ fields_refusal size z
    unfolding fields_refusal is_zone_mode is_mode
    fields_other h e = rw (not_true (asked_yes _ 1 _ h)) e

  -- What the questions come to before any answer, by what the function that puts them says.
  module _ {A : Type 0} (rest : Answer A) where
    pub fields_first : (fields_refusal size z ≡ 0 → ⊥) → refused (fields_refusal size z) ≡ ask_fields size z rest
    unfolding fields_refusal
    fields_first = is_refused field_questions tt rest (fields_refusal size z) refl

    pub fields_no : (e : Refusal) → number_of e ≡ fields_refusal size z → refused (number_of e) ≡ ask_fields size z rest
    unfolding fields_refusal
    fields_no e f = is_refused field_questions tt rest (number_of e) f (number_ne0 e)

    pub fields_then : 0 ≡ fields_refusal size z → (a : Answer A) → a ≡ rest → a ≡ ask_fields size z rest
    unfolding fields_refusal
    fields_then e a f = f ∙ has_passed field_questions tt rest 0 e refl

-- and to the zone in its plan
module _ (size : ℕ) (before : Option ℕ) (z : Zone) where
  abbrev pub zone_questions : Questions
  zone_questions = field_questions size z ++ ((is_order before size z, 14) ∷ [])

  module _ {A : Type 0} (rest : Answer A) where
    pub zone_no : (e : Refusal) → number_of e ≡ zone_refusal size before z → refused (number_of e) ≡ ask_zone size before z rest
    unfolding zone_refusal
    zone_no e f = is_refused zone_questions tt rest (number_of e) f (number_ne0 e)

    pub zone_passed : 0 ≡ zone_refusal size before z → rest ≡ ask_zone size before z rest
    unfolding zone_refusal
    zone_passed e = has_passed zone_questions tt rest 0 e refl
