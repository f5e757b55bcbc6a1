-- The questions put to a plan as a list, what a yes to all of them says, and what they come to by what the functions that put them say.
use Rattle.std.specs.Prelude.{Option, Some, None}
use Rattle.base.proofs.Prelude.{◌≡◌, refl, sym, ap, ◌∙◌, true, List, [], ◌∷◌, ◌++◌, ℕ, zero, suc, ◌+◌, ◌<◌, ◌≤◌, T, arith, length, take, drop, get_or}
use native.Mathlib.Numerals.{add-one}
use lib.{ListN.{drop_of_length-le}, Seq.{drop-cons}}
use Rattle.base.proofs.{Chain.{Questions, ask_all, first_no, AllYes, counted, all_yes, yes_parts, all_accepted, all_pass, is_refused}, Test.{true_false, up_to}}
use Rattle.base.specs.{Choice.is_up_to, Answer.{Answer, accepted, refused, refusal_of}}
use Rattle.refusal.specs.{declared.Refusal.Refusal, Refusal.number_of}
use Rattle.refusal.proofs.Asked.{number_ne0}
use Rattle.modes.specs.{Setup.setup_with, Question.{is_four_sizes, is_size}}
use Rattle.modes.proofs.Accept.{size_most}
use Rattle.zone.specs.{declared.Zone.Zone, Zone.{ask_zone, unused}}
use Rattle.zone.specs.Model.{zone_refusal, Small}
use Rattle.zone.proofs.{Number.{zone_questions, zone_no, zone_passed}, Judge.{small, small_unused, fusc_not_first}}
use Rattle.plan.specs.{declared.Plan.Plan, Plan.{is_count, in_places, are_unused, used_zones, ask_zones, ask_plan}, Model.{zones_refusal, plan_refusal}}
use Rattle.plan.proofs.Places.{places_of}

-- ---- the zones one after the other

abbrev pub zones_questions : (size : ℕ) (before : Option ℕ) (zones : List Zone) → Questions
zones_questions size before [] = []
zones_questions size before (z ∷ zones) = zone_questions size before z ++ zones_questions size (Some z.mode) zones

zones_asked : {A : Type 0} (size : ℕ) (before : Option ℕ) (zones : List Zone) (rest : Answer A) → ask_zones size before zones rest ≡ ask_all (zones_questions size before zones) rest
unfolding ask_zones
zones_asked size before [] rest = refl
zones_asked size before (z ∷ zones) rest = ap (ask_zone size before z) (zones_asked size (Some z.mode) zones rest)

zones_counted : (size : ℕ) (before : Option ℕ) (zones : List Zone) → T (counted (zones_questions size before zones))
zones_counted size before [] = tt
zones_counted size before (z ∷ zones) = zones_counted size (Some z.mode) zones

zones_small : (size : ℕ) (before : Option ℕ) (zones : List Zone) (k : ℕ) → AllYes (zones_questions size before zones) → Small (get_or zones k unused)
zones_small size before [] k y = small_unused
zones_small size before (z ∷ zones) zero y = small size z before (yes_parts (zone_questions size before z) (zones_questions size (Some z.mode) zones) y).0
zones_small size before (z ∷ zones) (suc k) y = zones_small size (Some z.mode) zones k (yes_parts (zone_questions size before z) (zones_questions size (Some z.mode) zones) y).1

-- from the k-th zone on
module _ (size : ℕ) (before : Option ℕ) (zones : List Zone) (k : ℕ) where
  module _ (h : k < length zones) where
    pub zones_no : (e : Refusal) → number_of e ≡ zone_refusal size before (get_or zones k unused) → number_of e ≡ zones_refusal size before (drop k zones)
    unfolding zones_refusal ask_zones
    zones_no e f = rw (drop-cons zones k unused h) (ap refusal_of (zone_no size before (get_or zones k unused) _ e f))

    pub zones_next : 0 ≡ zone_refusal size before (get_or zones k unused) → zones_refusal size (Some (get_or zones k unused).mode) (drop (k + 1) zones) ≡ zones_refusal size before (drop k zones)
    unfolding zones_refusal ask_zones
    zones_next e = rw (add-one, drop-cons zones k unused h) (ap refusal_of (zone_passed size before (get_or zones k unused) _ e))

  pub zones_end : length zones ≤ k → 0 ≡ zones_refusal size before (drop k zones)
  unfolding zones_refusal ask_zones
  zones_end h = rw (drop_of_length-le zones {i = k} h)

-- ---- the plan

abbrev pub plan_questions : (p : Plan) → Questions
plan_questions p = (is_count p.count, 12) ∷ (are_unused (drop p.count p.zones), 12) ∷ (is_four_sizes p.size, 2) ∷ zones_questions p.size None (used_zones p)

pub plan_asked : {A : Type 0} (p : Plan) (rest : Answer A) → ask_plan p rest ≡ ask_all (plan_questions p) rest
plan_asked p rest = rw (zones_asked p.size None (used_zones p) rest)

-- a plan that every question lets pass
pub record Fit (p : Plan) : Type 0 where
  pub count_is : is_count p.count ≡ true
  pub unused_are : are_unused (drop p.count p.zones) ≡ true
  pub size_is : is_four_sizes p.size ≡ true
  pub judged : AllYes (zones_questions p.size None (used_zones p))

module _ (p : Plan) where
  fit : AllYes (plan_questions p) → Fit p
  fit y = record { count_is = y.0; unused_are = y.1.0; size_is = y.1.1.0; judged = y.1.1.1 }

  module _ {A : Type 0} (rest : Answer A) where
    pub plan_yes : {a : A} → ask_plan p rest ≡ accepted a → Fit p × (rest ≡ accepted a)
    plan_yes e = let y = all_accepted (plan_questions p) rest (sym (plan_asked p rest) ∙ e) in (fit y.0, y.1)

    pub plan_passes : Fit p → rest ≡ ask_plan p rest
    plan_passes f = all_pass (plan_questions p) rest (f.count_is, (f.unused_are, (f.size_is, f.judged))) ∙ sym (plan_asked p rest)

  -- by the number that a function gave
  counted_all : T (counted (plan_questions p))
  counted_all = zones_counted p.size None (used_zones p)

  number_is : plan_refusal p ≡ first_no (plan_questions p)
  unfolding plan_refusal
  number_is = ap refusal_of (plan_asked p (accepted tt))

  pub fit_of : plan_refusal p ≡ 0 → Fit p
  fit_of e = fit (all_yes (plan_questions p) counted_all (sym number_is ∙ e))

  pub plan_no : {A : Type 0} (rest : Answer A) (e : Refusal) → number_of e ≡ plan_refusal p → refused (number_of e) ≡ ask_plan p rest
  plan_no rest e f = is_refused (plan_questions p) counted_all rest (number_of e) (f ∙ number_is) (number_ne0 e) ∙ sym (plan_asked p rest)

pub count_most : (n : ℕ) → is_count n ≡ true → n ≤ 8
count_most n e = up_to 8 n e

-- Document 02, wish 8: mode 7 never opens a plan.
first_zone : (size count : ℕ) (zones : List Zone) → is_count count ≡ true → AllYes (zones_questions size None (take count zones)) → (get_or zones 0 unused).mode ≡ 7 → ⊥
unfolding is_up_to
first_zone size count [] h y e = omega (arith, e)
first_zone size zero (z ∷ zones) h y e = true_false (sym h)
first_zone size (suc count) (z ∷ zones) h y e =
    fusc_not_first size z (yes_parts (zone_questions size None z) (zones_questions size (Some z.mode) (take count zones)) y).0 e

pub fit_first : {p : Plan} → Fit p → (get_or p.zones 0 unused).mode ≡ 7 → ⊥
fit_first {p} f = first_zone p.size p.count p.zones f.count_is f.judged

pub size_small : (size : ℕ) → is_four_sizes size ≡ true → size ≤ 2048
unfolding is_size
size_small z e = size_most (setup_with 2 z 0) e

-- the values of its zones are small, and so are those of all its places
pub fit_small : {p : Plan} → Fit p → (k : ℕ) → Small (get_or (used_zones p) k unused)
fit_small {p} f k = zones_small p.size None (used_zones p) k f.judged

places_small : (n : ℕ) (zones : List Zone) → ((k : ℕ) → Small (get_or zones k unused)) → (k : ℕ) → Small (get_or (in_places n zones) k unused)
unfolding in_places
places_small zero zones s k = small_unused
places_small (suc n) [] s zero = small_unused
places_small (suc n) [] s (suc k) = places_small n [] s k
places_small (suc n) (z ∷ zones) s zero = s 0
places_small (suc n) (z ∷ zones) s (suc k) = places_small n zones (λ j. s (suc j)) k

pub all_small : {p : Plan} → Fit p → length p.zones ≡ 8 → (k : ℕ) → Small (get_or p.zones k unused)
all_small {p} f l k = rw (places_of 8 p.count p.zones l f.unused_are) at (places_small 8 (used_zones p) (fit_small f) k)
