-- Reading from a place on, value by value and zone by zone.
use Rattle.base.proofs.Prelude.{◌≡◌, refl, sym, ap, ◌∙◌, List, [], ◌∷◌, ◌++◌, ℕ, suc, ◌+◌, ◌-◌, ◌<◌, ◌≤◌, arith, length, take, drop, set, length-set, leb}
use Rattle.base.proofs.Prelude.{eq-eqb, ne_eqb}
use mathlib.Core.List.{append-nil}
use native.Mathlib.Numerals.{add-one}
use lib.{ListN.{length-append, length-drop}, Seq.{append_snoc, drop-drop, take_all, take-suc-set}}
use borrow.Author.Tests.{leb-true, leb-false}
use Rattle.std.specs.Prelude.{Option, Some, None, Result, Ok, Err}
use Rattle.std.specs.Result.{IsErrAnd}
use Rattle.std.proofs.lemmas.Result.{err_from_is_err_and}
use Rattle.base.specs.Answer.{Answer, accepted, refused, ask}
use Rattle.refusal.specs.{declared.Refusal.Refusal, Refusal.number_of}
use Rattle.refusal.proofs.Asked.{asked_no, asked_yes}
use Rattle.value.specs.{declared.Value.Value, Value.value_of}
use Rattle.value.proofs.Laws.{bytes_within}
use Rattle.zone.specs.{declared.Zone.Zone, Zone.ask_zone, Model.zone_refusal}
use Rattle.zone.proofs.Number.{zone_no, zone_passed}
use Rattle.plan.specs.{declared.Plan.Plan, Plan.in_places}
use Rattle.plan.proofs.Places.{set_places}
use Rattle.plan_read.specs.declared.ZoneFound.{ZoneFound}
use Rattle.plan_read.specs.{Read.{hand_on, read_values, read_zone, read_zones, finish}, Model.ZoneAt}

-- a value that was read lies within the bytes
pub value_within : (s : List ℕ) {v : Value} → accepted v ≡ value_of s → v.bytes ≤ length s
value_within s e = bytes_within 3 s (sym e)

-- While values are read: those that are done stand in the first places, and the rest gives what the whole gives.
pub record Valued (n : ℕ) (s : List ℕ) (at : ℕ) (values : List ℕ) (next k : ℕ) : Type 0 where
  pub room : length values ≡ n
  pub inside : next ≤ at + (length s - at)
  pub rest : (go : List ℕ → List ℕ → Answer Plan) → read_values n (drop at s) go ≡ read_values (n - k) (drop next s) (λ further s₁. go (take k values ++ further) s₁)

pub no_value : {n : ℕ} (s : List ℕ) (at : ℕ) (values : List ℕ) → length values ≡ n → Valued n s at values at 0
no_value s at values e = record { room = e; inside = omega arith; rest = λ go. ap (λ m. read_values m (drop at s) go) (omega arith) }

module _ {n : ℕ} {s : List ℕ} {at : ℕ} {values : List ℕ} {next k : ℕ} (h : Valued n s at values next k) where
  module _ (l : k < n) where
    value_ahead : {a : Answer Value} → a ≡ value_of (drop next s) → (go : List ℕ → List ℕ → Answer Plan)
        → read_values n (drop at s) go ≡ hand_on a (drop next s) (λ value s₁. read_values (n - suc k) s₁ (λ further s₂. go (take k values ++ value ∷ further) s₂))
    unfolding read_values
    value_ahead e go =
        let one : n - k ≡ suc (n - suc k) = omega arith in
        h.rest go ∙ ap (λ m. read_values m (drop next s) (λ further s₁. go (take k values ++ further) s₁)) one ∙ rw e

    pub value_refused : {number : ℕ} → refused number ≡ value_of (drop next s) → (go : List ℕ → List ℕ → Answer Plan) → refused number ≡ read_values n (drop at s) go
    value_refused e go = sym (value_ahead e go)

    pub value_again : {v : Value} → accepted v ≡ value_of (drop next s) → Valued n s at (set values k v.value) (next + v.bytes) (k + 1)
    value_again {v} e =
        record {
          room = simp length-set h.room;
          inside = omega (arith, h.inside, rw length-drop at (value_within (drop next s) e));
          rest = λ go. rw (add-one, take-suc-set values k v.value (omega (arith, h.room))) (simp append_snoc (value_ahead e go ∙ rw drop-drop));
        }

  pub values_all : n ≤ k → (go : List ℕ → List ℕ → Answer Plan) → go values (drop next s) ≡ read_values n (drop at s) go
  unfolding read_values
  values_all m go =
      let none : n - k ≡ 0 = omega arith in
      rw (h.rest go, none, append-nil, take_all k values (omega (arith, h.room)))

-- the zones from a place on, to the end
abbrev zones_at : (s : List ℕ) (at count size : ℕ) → Answer Plan
zones_at s at count size = read_zones count size None (drop at s) (finish count size)

-- While zones are read: those that are done stand in the first places, and the rest gives what the whole gives.
pub record Reading (s : List ℕ) (at count size : ℕ) (zones : List Zone) (prior : Option ℕ) (next k : ℕ) : Type 0 where
  pub done : List Zone
  pub number_done : length done ≡ k
  pub places : zones ≡ in_places 8 done
  pub rest : zones_at s at count size ≡ read_zones (count - k) size prior (drop next s) (λ further s₁. finish count size (done ++ further) s₁)

pub begin : (s : List ℕ) (at count size : ℕ) {zones : List Zone} → zones ≡ in_places 8 [] → Reading s at count size zones None at 0
begin s at count size e = record { done = []; number_done = refl; places = e; rest = ap (λ n. read_zones n size None (drop at s) (finish count size)) (omega arith) }

module _ {s : List ℕ} {at count size : ℕ} {zones : List Zone} {prior : Option ℕ} {next k : ℕ} (h : Reading s at count size zones prior next k) where
  -- one zone more is to be read
  module _ (l : k < count) where
    abbrev go : Zone → List ℕ → Answer Plan
    go z s₁ = ask_zone size prior z (read_zones (count - suc k) size (Some z.mode) s₁ (λ further s₂. finish count size (h.done ++ z ∷ further) s₂))

    zone_ahead : zones_at s at count size ≡ read_zone (drop next s) go
    unfolding read_zones
    zone_ahead =
        let one : count - k ≡ suc (count - suc k) = omega arith in
        h.rest ∙ ap (λ n. read_zones n size prior (drop next s) (λ further s₁. finish count size (h.done ++ further) s₁)) one

    pub zone_none : (e : Refusal) → ZoneAt s next (Err e) → refused (number_of e) ≡ zones_at s at count size
    zone_none e f = f go ∙ sym zone_ahead

    module _ (found : ZoneFound) (f : ZoneAt s next (Ok found)) where
      asked : zones_at s at count size ≡ go found.zone (drop found.next s)
      asked = zone_ahead ∙ sym (f go)

      pub zone_refused : (e : Refusal) → number_of e ≡ zone_refusal size prior found.zone → refused (number_of e) ≡ zones_at s at count size
      zone_refused e q = zone_no size prior found.zone _ e q ∙ sym asked

      pub again : 0 ≡ zone_refusal size prior found.zone → count ≤ 8 → Reading s at count size (set zones k found.zone) (Some found.zone.mode) found.next (k + 1)
      again passed most =
          record {
            done = h.done ++ found.zone ∷ [];
            number_done = simp length-append (omega (arith, h.number_done));
            places = rw (h.places, ← h.number_done) (set_places 8 h.done found.zone (omega (arith, h.number_done)));
            rest = simp (append_snoc, add-one) (asked ∙ sym (zone_passed size prior found.zone _ passed));
          }

  -- all zones are read
  module _ (l : count ≤ k) where
    ended : zones_at s at count size ≡ finish count size h.done (drop next s)
    unfolding read_zones
    ended = let none : count - k ≡ 0 = omega arith in rw (h.rest, none, append-nil)

    pub too_long : {n : ℕ} → refused n ≡ ask {A = Unit {0}} (leb (length s) next) 15 (accepted tt) → refused n ≡ zones_at s at count size
    too_long {n} t =
        let p = asked_no _ 15 n t in
        let left : next < length s = leb-false (length s) next p.0 in
        rw (p.1, ended, length-drop, ne_eqb (length s - next) 0 (λ z. omega arith))

    pub whole : {x : Unit {0}} → accepted x ≡ ask (leb (length s) next) 15 (accepted tt) → accepted (record { count = count; size = size; zones = zones }) ≡ zones_at s at count size
    whole t =
        let all : length s ≤ next = leb-true (length s) next (asked_yes _ 15 _ t) in
        rw (ended, length-drop, eq-eqb (length s - next) 0 (omega arith), ← h.places)

-- what `zone_at` returns where a value is refused
pub found_no : (s : List ℕ) (at : ℕ) (r : Result ZoneFound Refusal) (e : Refusal) → IsErrAnd r (λ y. y ≡ e) → ZoneAt s at (Err e) → ZoneAt s at r
found_no s at r e f h next = let p = err_from_is_err_and r f in rw (p.1, p.2) (h next)
