-- The answers of the three calls, by what their questions come to.
use Rattle.base.proofs.{Prelude.{◌≡◌, sym, ap, ◌∙◌, List, [], ◌∷◌, ℕ, ◌<◌, ◌≤◌, arith, T, ltb, ltb-true, ltb-false}, Test.cases}
use Rattle.base.proofs.Chain.{Questions, ask_all, first_no, counted, all_numbered, all_yes, numbered_zero}
use Rattle.std.specs.Prelude.{Result, Ok}
use Rattle.std.specs.Result.{IsErrAnd}
use Rattle.std.proofs.lemmas.Result.{err_from_is_err_and}
use Rattle.refusal.specs.{declared.Refusal.Refusal, Refusal.number_of}
use Rattle.base.proofs.Tabulate.{get_d_tabulate, tabulated, length_tabulate}
use Rattle.base.specs.{Answer.{Answer, accepted, refused, refusal_of}, Tabulate.tabulate}
use Rattle.modes.specs.{Mode.subchannels, Question.{is_slot, is_subchannel}}
use Rattle.modes.proofs.ByMode.{few}
use Rattle.zone.specs.{declared.Zone.Zone, Zone.{setup_of, fields_refusal}}
use Rattle.zone.proofs.{Judge.{fields_ranged, fields_slots}, Number.field_questions}
use Rattle.burst.specs.Burst.{burst_at, is_covering}
use Rattle.burst.proofs.Cover.{inside_covers}
use Rattle.burst_list.specs.Model.{list_refusal}
use Rattle.burst_list.proofs.Each.{list_no, list_then, list_yes}
use Rattle.burst_owner.specs.{declared.Owned.Owned, Owner.{no_owner, owner_number, owner_at}, Model.Accepted}
use Rattle.burst_owner.proofs.Row.{no-owner}
use Rattle.bursts.specs.{Burst.ask_bursts, Owner.{owner_said, owned, row_at, ask_owners, owner_row}}

-- a chain whose number is 0 is answered yes, and so is what comes after it
pub zero_parts : {A : Type 0} (qs : Questions) → T (counted qs) → (rest : Answer A) → refusal_of (ask_all qs rest) ≡ 0 → (first_no qs ≡ 0) × (refusal_of rest ≡ 0)
zero_parts qs t rest e = numbered_zero (first_no qs) rest (sym (ap refusal_of (all_numbered qs t rest)) ∙ e)

module _ (size : ℕ) (zone : Zone) where
  -- where a zone's own questions are all answered yes, it is small
  pub zone_limits : fields_refusal size zone ≡ 0 → (subchannels (setup_of size zone) ≤ 192) × (zone.slots ≤ 512)
  zone_limits e = ((few (fields_ranged size zone e)).subchannels_few, fields_slots size zone e)

  -- what the list's questions ask of it
  pub list_asks : {s : ℕ} → 0 ≡ fields_refusal size zone → s ≡ subchannels (setup_of size zone) → (s < 65536) × (zone.slots < 65536)
  list_asks e q = let limits = zone_limits (sym e) in (omega arith, omega arith)

  -- those of the list, by the subchannels that a function counted
  module _ (numbers : List ℕ) (s : ℕ) (q : s ≡ subchannels (setup_of size zone)) (rest : Answer (Unit {0})) where
    pub bursts_no : (e : Refusal) → number_of e ≡ list_refusal s zone.slots numbers → refused (number_of e) ≡ ask_bursts size zone numbers rest
    bursts_no e f = rw (← q) (list_no s zone.slots numbers rest e f)

    pub bursts_then : 0 ≡ list_refusal s zone.slots numbers → rest ≡ ask_bursts size zone numbers rest
    bursts_then e = rw (← q) (list_then s zone.slots numbers rest e)

  module _ (numbers : List ℕ) where
    -- what has passed where a slot's owners are asked for and all is answered yes
    pub owners_passed : (slot : ℕ) → refusal_of (ask_owners {A = Unit {0}} size zone slot numbers (accepted tt)) ≡ 0
        → (fields_refusal size zone ≡ 0) × (slot < 512) × (list_refusal (subchannels (setup_of size zone)) zone.slots numbers ≡ 0)
    unfolding fields_refusal list_refusal is_slot
    owners_passed slot e =
        let own : Questions = (is_slot slot, 4) ∷ [] in
        let fields = zero_parts (field_questions size zone) tt _ e in
        let rest = zero_parts own tt _ fields.1 in
        (fields.0, ltb-true slot 512 (all_yes own tt rest.0).0, rest.1)

    -- a list that is accepted
    pub zone_accepted : {s : ℕ} → 0 ≡ fields_refusal size zone → s ≡ subchannels (setup_of size zone) → 0 ≡ list_refusal s zone.slots numbers → Accepted numbers
    zone_accepted {s} e q l = record { subchannel_end = s; slot_end = zone.slots; at_most_192 = omega (arith, zone_limits (sym e)); no_refusal = sym l }

    -- its row has none past the mode's last subchannel
    module _ (l : list_refusal (subchannels (setup_of size zone)) zone.slots numbers ≡ 0) (slot : ℕ) where
      row_is : (k : ℕ) → owner_at numbers slot k ≡ row_at size zone slot numbers k
      unfolding row_at is_subchannel
      row_is k =
          cases (ltb k (subchannels (setup_of size zone)))
          (λ t. rw t)
          (λ f. rw f (no-owner numbers slot k (λ i h.
          cases (is_covering (burst_at numbers i) slot k)
          (λ c. absurd (omega (arith, ltb-false k _ f, inside_covers (burst_at numbers i) _ _ ((list_yes _ _ numbers l).1 i h).inside slot k c)))
          (λ n. n))).0)

    pub row_yes : (s : ℕ) → s ≡ subchannels (setup_of size zone) → 0 ≡ list_refusal s zone.slots numbers → (slot : ℕ) (owners : List ℕ) → owners ≡ tabulate 192 (owner_at numbers slot)
        → (answer : Answer (Unit {0})) → accepted tt ≡ answer → record { refusal = 0; owners = owners } ≡ owner_row (row_at size zone slot numbers) answer
    row_yes s q l slot owners e answer f =
        let row = row_at size zone slot numbers in
        rw (e ∙ tabulated 0 _ 192 row (length_tabulate 192 (owner_at numbers slot)) (λ j h. get_d_tabulate 192 (owner_at numbers slot) j 0 h ∙ row_is (rw q at (sym l)) slot j)) (ap (owner_row row) f)

-- the outcomes by their answer: what a `?` returns, and the owner that was found
module _ (owner looked : ℕ) (answer : Answer (Unit {0})) where
  pub owned_no : (r : Result Owned Refusal) (e : Refusal) → IsErrAnd r (λ y. y ≡ e) → refused (number_of e) ≡ answer → owner_said r ≡ owned owner looked answer
  owned_no r e g f = let p = err_from_is_err_and r g in rw (p.1, p.2) (ap (owned owner looked) f)

  pub owned_yes : (r : Owned) → (owner_number r.owner ≡ owner) × (r.looked ≡ looked) → accepted tt ≡ answer → owner_said (Ok r) ≡ owned owner looked answer
  owned_yes r e f = rw (e.0, e.1) (ap (owned owner looked) f)

module _ (row : ℕ → ℕ) (answer : Answer (Unit {0})) where
  pub row_no : (n : ℕ) → refused n ≡ answer → record { refusal = n; owners = tabulate 192 (λ s. no_owner) } ≡ owner_row row answer
  row_no n f = ap (owner_row row) f
