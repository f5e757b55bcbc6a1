-- THE LAW OF THE BURSTS.
use Rattle.base.proofs.Prelude.{◌≡◌, refl, sym, ap, ◌∙◌, Bool, true, false, List, [], ◌∷◌, ℕ, ◌+◌, ◌%◌, ◌<◌, ◌≤◌, arith, eqb, ltb, length}
use Rattle.base.proofs.Prelude.{eqb-true, eqb-false, lt-ltb, le-ltb, ltb-true, ltb-false}
use Rattle.base.proofs.{Test.{cases, true_false}, Tabulate.{length_tabulate, entry_of}, First.{first_most, first_passes, none_is, none_not}}
use Rattle.base.proofs.Chain.{Questions, all_yes}
use Rattle.base.specs.{Answer.{Answer, accepted, refused, refusal_of}, Steps.entry, Tabulate.tabulate, First.first_of}
use Rattle.modes.specs.{Mode.subchannels, Question.{is_slot, is_subchannel}}
use Rattle.zone.specs.{declared.Zone.Zone, Zone.{setup_of, ask_fields, fields_refusal}}
use Rattle.burst.specs.Burst.{burst_at, is_covering, is_inside, is_overlap}
use Rattle.burst.proofs.Cover.{inside_covers, inside_first, inside_is, overlap_is, overlap_common}
use Rattle.burst_list.specs.{List.{burst_count, is_list, is_apart}, Model.list_refusal}
use Rattle.burst_list.proofs.Each.{list_is, list_of, list_then, Passes, list_yes, all_pass, is_overlapping, by_list}
use Rattle.burst_owner.specs.{Owner.{no_owner, owner_at, looked_at}}
use Rattle.burst_owner.proofs.Row.{alone, owner_here, by-owner}
use Rattle.bursts.specs.Burst.{ask_bursts, check_of}
use Rattle.bursts.specs.Owner.{OwnerAnswer, ask_owner, owned, owner_of, row_at, RowAnswer, ask_owners, owner_row, owners_of}
use Rattle.bursts.specs.Law.{Covers, masked, Masks, FirstFit, Fit, Overlapping, BurstLaw}
use Rattle.zone.proofs.Number.{field_questions, fields_first, fields_then}
use Rattle.bursts.proofs.Answer.{zero_parts, zone_limits, owners_passed}

-- the outcomes by their answer
owned_by : (owner looked : ℕ) (answer : Answer (Unit {0})) → let r = owned owner looked answer in (r.refusal ≡ refusal_of answer) × ((refusal_of answer ≡ 0 → ⊥) → (r.owner ≡ no_owner) × (r.looked ≡ 0))
owned_by owner looked (accepted tt) = (refl, λ h. absurd (h refl))
owned_by owner looked (refused k) = (refl, λ h. (refl, refl))

row_by : (row : ℕ → ℕ) (answer : Answer (Unit {0})) → let r = owner_row row answer in (r.refusal ≡ refusal_of answer) × ((refusal_of answer ≡ 0 → ⊥) → r.owners ≡ tabulate 192 (λ s. no_owner))
row_by row (accepted tt) = (refl, λ h. absurd (h refl))
row_by row (refused k) = (refl, λ h. refl)

module _ (size : ℕ) (zone : Zone) (numbers : List ℕ) where
  abbrev end : ℕ
  end = subchannels (setup_of size zone)

  abbrev list : ℕ
  list = list_refusal end zone.slots numbers

  -- The check: the list's number, where the zone's is 0.
  check_is : fields_refusal size zone ≡ 0 → list ≡ check_of size zone numbers
  unfolding check_of list_refusal
  check_is z = ap refusal_of (fields_then size zone _ (sym z) _ refl)

  zone_first : (fields_refusal size zone ≡ 0 → ⊥) → check_of size zone numbers ≡ fields_refusal size zone
  unfolding check_of
  zone_first n = sym (ap refusal_of (fields_first size zone _ n))

  check_yes : check_of size zone numbers ≡ 0 → (fields_refusal size zone ≡ 0) × (list ≡ 0)
  unfolding check_of fields_refusal list_refusal
  check_yes e = zero_parts (field_questions size zone) tt _ e

  -- The first n bursts pass exactly when they are fit.
  module _ {n : ℕ} where
    passes_fit : Passes end zone.slots numbers n → FirstFit size zone numbers n
    passes_fit p =
        record {
          not_empty = λ i h. ((burst_at numbers i).slot, (burst_at numbers i).subchannel, inside_first (burst_at numbers i) end zone.slots (p i h).inside);
          in_zone = λ i h. inside_covers (burst_at numbers i) end zone.slots (p i h).inside;
          apart = λ i j slot s hi hj ci cj.
              cases (ltb i j)
              (λ t. absurd (true_false (sym ci ∙ alone numbers slot s (p j hj) cj i (ltb-true i j t))))
              (λ f. cases (ltb j i)
              (λ t. absurd (true_false (sym cj ∙ alone numbers slot s (p i hi) ci j (ltb-true j i t))))
              (λ g. omega (arith, ltb-false i j f, ltb-false j i g)));
        }

    fit_passes : FirstFit size zone numbers n → Passes end zone.slots numbers n
    unfolding is_apart
    fit_passes f i h =
        record {
          inside = inside i h;
          apart = none_is (λ j. is_overlap (burst_at numbers j) (burst_at numbers i)) i (λ j l.
              cases (is_overlap (burst_at numbers j) (burst_at numbers i))
              (λ t. let lt : j < n = omega arith in
              let common = overlap_common (burst_at numbers j) (burst_at numbers i) end zone.slots (inside j lt) (inside i h) t in
              let same = f.apart j i _ _ lt h common.0 common.1 in absurd (omega arith))
              (λ n. n));
        }
      where
        inside : (i : ℕ) → i < n → is_inside end zone.slots (burst_at numbers i) ≡ true
        inside i h = let some = f.not_empty i h in inside_is (burst_at numbers i) end zone.slots some.0 some.1 some.2 (f.in_zone i h)

  listed : length numbers % 4 ≡ 0 → burst_count numbers ≤ 64 → is_list numbers ≡ true
  listed four most = list_is numbers four (omega arith)

  list_fit : list ≡ 0 → Fit size zone numbers
  list_fit l =
      let passed = list_yes end zone.slots numbers l in
      let length_is = list_of numbers passed.0 in
      record { four_each = length_is.0; at_most_64 = omega arith; all_fit = passes_fit passed.1 }

  fit_list : Fit size zone numbers → list ≡ 0
  fit_list f = sym (all_pass end zone.slots numbers (listed f.four_each f.at_most_64) (fit_passes f.all_fit))

  -- One is stopped by 19 exactly when it is the first with a fault, and that an overlap.
  stopped : is_list numbers ≡ true → (i : ℕ) → i < burst_count numbers → Passes end zone.slots numbers i → is_inside end zone.slots (burst_at numbers i) ≡ true → is_apart numbers i ≡ false
      → Overlapping size zone numbers
  unfolding is_apart
  stopped l i h p t n =
      let length_is = list_of numbers l in
      let overlaps : ℕ → Bool = λ j. is_overlap (burst_at numbers j) (burst_at numbers i) in
      let j = first_of overlaps i in
      let lt : j < i = omega (arith, first_most overlaps i, eqb-false j i n) in
      let common = overlap_common (burst_at numbers j) (burst_at numbers i) end zone.slots (p j lt).inside t (first_passes overlaps i lt) in
      record {
        four_each = length_is.0;
        at_most_64 = omega arith;
        i = i;
        in_list = h;
        before_fit = passes_fit p;
        in_zone = inside_covers (burst_at numbers i) end zone.slots t;
        common = (j, _, _, lt, common.0, common.1);
      }

  overlap_list : Overlapping size zone numbers → 19 ≡ list
  unfolding is_apart
  overlap_list o =
      let i = o.i in
      let c = o.common in
      is_overlapping end zone.slots numbers (listed o.four_each o.at_most_64) o.in_list (fit_passes o.before_fit)
      (inside_is (burst_at numbers i) end zone.slots c.1 c.2 c.5 o.in_zone)
      (none_not (λ j. is_overlap (burst_at numbers j) (burst_at numbers i)) i c.0 c.3 (overlap_is (burst_at numbers c.0) (burst_at numbers i) c.1 c.2 c.4 c.5))

  -- one of the three
  by_check : {A : Type 0} → fields_refusal size zone ≡ 0 → (check_of size zone numbers ≡ 18 → A) → (check_of size zone numbers ≡ 19 → Overlapping size zone numbers → A) → (check_of size zone numbers ≡ 0 → A) → A
  by_check z f g h =
      by_list end zone.slots numbers
      (λ e. f (sym (e ∙ check_is z)))
      (λ l i k p t n. g (sym (is_overlapping end zone.slots numbers l k p t n ∙ check_is z)) (stopped l i k p t n))
      (λ l p. h (sym (all_pass end zone.slots numbers l p ∙ check_is z)))

  -- The owner and the row: both ask for the slot, and are answered where all is answered yes.
  module _ (slot : ℕ) where
    pub record Answered : Type 0 where
      pub zone_passed : fields_refusal size zone ≡ 0
      pub slot_lt : slot < 512
      pub list_passed : list ≡ 0

    module _ (a : Answered) where
      accepts : check_of size zone numbers ≡ 0
      accepts = sym (check_is a.zone_passed) ∙ a.list_passed

      few : burst_count numbers ≤ 64
      few = (list_fit a.list_passed).at_most_64

      list_passes : accepted tt ≡ ask_bursts {A = Unit {0}} size zone numbers (accepted tt)
      list_passes = list_then end zone.slots numbers (accepted tt) (sym a.list_passed)

    module _ (s : ℕ) where
      abbrev outcome : OwnerAnswer
      outcome = owner_of size zone slot s numbers

      owner_number : outcome.refusal ≡ refusal_of (ask_owner {A = Unit {0}} size zone slot s numbers (accepted tt))
      unfolding owner_of
      owner_number = (owned_by (owner_at numbers slot s) (looked_at numbers slot s) (ask_owner size zone slot s numbers (accepted tt))).0

      owner_alike : slot < 512 → s < end → outcome.refusal ≡ check_of size zone numbers
      unfolding check_of is_slot is_subchannel
      owner_alike h k = owner_number ∙ rw (lt-ltb slot 512 h, lt-ltb s end k)

      owner_is : Answered → s < end → outcome ≡ record { refusal = 0; owner = owner_at numbers slot s; looked = looked_at numbers slot s }
      unfolding owner_of is_slot is_subchannel
      owner_is a k = sym (ap (owned (owner_at numbers slot s) (looked_at numbers slot s)) (fields_then size zone _ (sym a.zone_passed) (accepted tt) (rw (lt-ltb slot 512 a.slot_lt, lt-ltb s end k) (list_passes a))))

      owner_yes : outcome.refusal ≡ 0 → Answered × (outcome ≡ record { refusal = 0; owner = owner_at numbers slot s; looked = looked_at numbers slot s })
      unfolding fields_refusal list_refusal is_slot is_subchannel
      owner_yes e =
          let fields = zero_parts (field_questions size zone) tt _ (sym owner_number ∙ e) in
          let own : Questions = (is_slot slot, 4) ∷ (is_subchannel (setup_of size zone) s, 5) ∷ [] in
          let rest = zero_parts own tt _ fields.1 in
          let yes = all_yes own tt rest.0 in
          let a : Answered = record { zone_passed = fields.0; slot_lt = ltb-true slot 512 yes.0; list_passed = rest.1 } in
          (a, owner_is a (ltb-true s end yes.1.0))

      -- An owner's outcome is either the answer for an accepted list, or a refusal, which has no owner.
      by_answer : {A : Type 0} → (Answered → outcome.owner ≡ owner_at numbers slot s → outcome.looked ≡ looked_at numbers slot s → A)
          → ((outcome.refusal ≡ 0 → ⊥) → outcome.owner ≡ no_owner → outcome.looked ≡ 0 → A) → A
      unfolding owner_of
      by_answer f g =
          cases (eqb outcome.refusal 0)
          (λ t. let y = owner_yes (eqb-true _ 0 t) in f y.0 (ap (λ (o : OwnerAnswer). o.owner) y.1) (ap (λ (o : OwnerAnswer). o.looked) y.1))
          (λ n. let h = (owned_by (owner_at numbers slot s) (looked_at numbers slot s) (ask_owner size zone slot s numbers (accepted tt))).1 (λ e. eqb-false _ 0 n (owner_number ∙ e)) in g (eqb-false _ 0 n) h.0 h.1)

      only_owner : (i : ℕ) → outcome.refusal ≡ 0 → i < burst_count numbers → Covers numbers i slot s → (outcome.owner ≡ i) × (outcome.looked ≡ i + 1)
      only_owner i e h c =
          let here = owner_here numbers slot s i h (alone numbers slot s ((list_yes end zone.slots numbers (owner_yes e).0.list_passed).1 i h) c) c in
          by_answer (λ a o l. (o ∙ here.0, l ∙ here.1)) (λ n o l. absurd (n e))

      owner_covers : outcome.owner < no_owner → (outcome.owner < burst_count numbers) × Covers numbers outcome.owner slot s
      owner_covers h =
          by_answer
          (λ a o l. by-owner numbers slot s (λ i lt c e e'. let same = o ∙ e in rw same (lt, c)) (λ none e e'. absurd (omega (arith, o ∙ e))))
          (λ n o l. absurd (omega arith))

      none_there : outcome.refusal ≡ 0 → outcome.owner ≡ no_owner → (outcome.looked ≡ burst_count numbers) × ((i : ℕ) → i < burst_count numbers → is_covering (burst_at numbers i) slot s ≡ false)
      none_there e q =
          by_answer
          (λ a o l. by-owner numbers slot s (λ i lt c p p'. absurd (omega (arith, o ∙ p, few a))) (λ none p p'. (l ∙ p', none)))
          (λ n o l. absurd (n e))

      pub owner_most : (outcome.owner ≤ 64) × (outcome.looked ≤ 64)
      owner_most =
          by_answer
          (λ a o l. by-owner numbers slot s (λ i lt c e e'. (omega (arith, o ∙ e, few a), omega (arith, l ∙ e', few a))) (λ none e e'. (omega (arith, o ∙ e), omega (arith, l ∙ e', few a))))
          (λ n o l. (omega arith, omega arith))

      past_zone : zone.slots ≤ slot → outcome.owner ≡ no_owner
      past_zone h =
          by_answer
          (λ a o l. o ∙ by-owner numbers slot s (λ i lt c e e'. absurd (let in_zone = (list_fit a.list_passed).all_fit.in_zone i lt slot s c in omega arith)) (λ none e e'. e))
          (λ n o l. o)

    -- The row of a slot's owners is either that of an accepted list, or a refusal's.
    abbrev rows : RowAnswer
    rows = owners_of size zone slot numbers

    rows_number : rows.refusal ≡ refusal_of (ask_owners {A = Unit {0}} size zone slot numbers (accepted tt))
    unfolding owners_of
    rows_number = (row_by (row_at size zone slot numbers) (ask_owners size zone slot numbers (accepted tt))).0

    row_alike : slot < 512 → rows.refusal ≡ check_of size zone numbers
    unfolding check_of is_slot
    row_alike h = rows_number ∙ rw (lt-ltb slot 512 h)

    row_is : Answered → rows ≡ record { refusal = 0; owners = tabulate 192 (row_at size zone slot numbers) }
    unfolding owners_of is_slot
    row_is a = sym (ap (owner_row (row_at size zone slot numbers)) (fields_then size zone _ (sym a.zone_passed) (accepted tt) (rw (lt-ltb slot 512 a.slot_lt) (list_passes a))))

    row_yes : rows.refusal ≡ 0 → Answered
    row_yes e = let p = owners_passed size zone numbers slot (sym rows_number ∙ e) in record { zone_passed = p.0; slot_lt = p.1; list_passed = p.2 }

    by_row : {A : Type 0} → (Answered → rows.owners ≡ tabulate 192 (row_at size zone slot numbers) → A) → ((rows.refusal ≡ 0 → ⊥) → rows.owners ≡ tabulate 192 (λ s. no_owner) → A) → A
    unfolding owners_of
    by_row f g =
        cases (eqb rows.refusal 0)
        (λ t. let a = row_yes (eqb-true _ 0 t) in f a (ap (λ (o : RowAnswer). o.owners) (row_is a)))
        (λ n. g (eqb-false _ 0 n) ((row_by (row_at size zone slot numbers) (ask_owners size zone slot numbers (accepted tt))).1 (λ e. eqb-false _ 0 n (rows_number ∙ e))))

    row_long : length rows.owners ≡ 192
    row_long = by_row (λ a e. ap length e ∙ length_tabulate 192 (row_at size zone slot numbers)) (λ n e. ap length e ∙ length_tabulate 192 (λ s. no_owner))

    module _ (s : ℕ) (h : s < 192) where
      at_is : (row : ℕ → ℕ) → rows.owners ≡ tabulate 192 row → entry rows.owners s ≡ row s
      at_is row e = entry_of rows.owners 192 row e s h

      row_owner : s < end → entry rows.owners s ≡ (outcome s).owner
      unfolding row_at is_subchannel
      row_owner l =
          by_row
          (λ a e. at_is _ e ∙ rw (lt-ltb s end l) (sym (ap (λ (o : OwnerAnswer). o.owner) (owner_is s a l))))
          (λ n e. by_answer s (λ a o k. absurd (n (ap (λ (o : RowAnswer). o.refusal) (row_is a)))) (λ m o k. at_is _ e ∙ sym o))

      row_past : end ≤ s → entry rows.owners s ≡ no_owner
      unfolding row_at is_subchannel
      row_past l = by_row (λ a e. at_is _ e ∙ rw (le-ltb s end l)) (λ n e. at_is _ e)

      refused-row : (rows.refusal ≡ 0 → ⊥) → entry rows.owners s ≡ no_owner
      refused-row n = by_row (λ a e. absurd (n (ap (λ (o : RowAnswer). o.refusal) (row_is a)))) (λ m e. at_is _ e)

  -- What is asked, and what is answered, goes by mode, cell and slots: the mask has its own question alone.
  module _ (m n : ℕ) (both : Masks zone.mode m n) where
    fields_any_mask : (rest : Answer (Unit {0})) → ask_fields size (masked zone m) rest ≡ ask_fields size (masked zone n) rest
    fields_any_mask rest = rw (both.0, both.1)

    check_any_mask : check_of size (masked zone m) numbers ≡ check_of size (masked zone n) numbers
    unfolding check_of
    check_any_mask = ap refusal_of (fields_any_mask _)

    owner_any_mask : (slot s : ℕ) → owner_of size (masked zone m) slot s numbers ≡ owner_of size (masked zone n) slot s numbers
    unfolding owner_of
    owner_any_mask slot s = ap (owned (owner_at numbers slot s) (looked_at numbers slot s)) (fields_any_mask _)

    row_any_mask : (slot : ℕ) → owners_of size (masked zone m) slot numbers ≡ owners_of size (masked zone n) slot numbers
    unfolding owners_of row_at
    row_any_mask slot = ap (owner_row (row_at size zone slot numbers)) (fields_any_mask _)

  pub burst_law : BurstLaw size zone numbers
  burst_law =
      record {
        zone_first = zone_first;
        accepted_zone = λ e. (check_yes e).0;
        accepted_fit = λ e. list_fit (check_yes e).1;
        fit_accepted = λ z f. sym (check_is z) ∙ fit_list f;
        refused_overlapping = λ z e. by_check z (λ q. absurd (omega arith)) (λ q o. o) (λ q. absurd (omega arith));
        overlapping_refused = λ z o. sym (overlap_list o ∙ check_is z);
        else_18 = λ z n m. by_check z (λ q. q) (λ q o. absurd (m q)) (λ q. absurd (n q));
        owner_alike = owner_alike;
        owner_accepted = λ slot s e. accepts slot (owner_yes slot s e).0;
        row_alike = row_alike;
        row_accepted = λ slot e. accepts slot (row_yes slot e);
        only_owner = only_owner;
        owner_covers = owner_covers;
        no-owner = none_there;
        looked_most = λ slot s. (owner_most slot s).1;
        past_zone = past_zone;
        at_most_192 = λ z. (zone_limits size zone z).0;
        row_long = row_long;
        row_owner = λ slot s l h. row_owner slot s h l;
        row_past = λ slot s l h. row_past slot s h l;
        refused-row = λ slot s n h. refused-row slot s h n;
        check_any_mask = check_any_mask;
        owner_any_mask = λ m n slot s both. owner_any_mask m n both slot s;
        row_any_mask = λ m n slot both. row_any_mask m n both slot;
      }
