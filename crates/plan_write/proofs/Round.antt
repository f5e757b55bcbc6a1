-- Reading and writing undo each other.
use Rattle.std.specs.Prelude.{Option, Some, None}
use Rattle.base.proofs.Prelude.{◌≡◌, refl, sym, ap, ◌∙◌, true, List, [], ◌∷◌, ◌++◌, ℕ, zero, suc, ◌<◌, ◌≤◌, arith, eqb, leb, length, take, drop, get_or}
use Rattle.base.proofs.Prelude.{eqb-true}
use Rattle.base.proofs.{Chain.{AllYes, ask_yes, same_accepted, yes_parts, yes_both, all_accepted, all_pass}, Tabulate.tabulated}
use mathlib.Core.List.{append_assoc, append-nil}
use lib.Seq.{drop-append_seam, take-append_seam, take_all, length-take-le}
use borrow.Author.Tests.{le-leb}
use Rattle.base.specs.{Answer.{Answer, accepted, refused, ask}, Tabulate.tabulate}
use Rattle.modes.specs.Question.{is_four_sizes}
use Rattle.value.specs.{declared.Value.Value, Value.{Bytes, value_of, encode}}
use Rattle.value.proofs.Laws.{read_written, Again, again, again_then}
use Rattle.zone.specs.{declared.Zone.Zone, Zone.zone_of}
use Rattle.zone.proofs.{Number.zone_questions, Judge.small}
use Rattle.plan.specs.{declared.Plan.Plan, Plan.{is_count, in_places, used_zones, ask_plan, each}}
use Rattle.plan.proofs.{Places.{places_are, places_of, places_length}, Judge.{zones_questions, Fit, plan_yes, count_most, size_small}}
use Rattle.plan_read.specs.Read.{hand_on, read_value, read_values, read_zones, plan_with, finish, plan_of}
use Rattle.plan_write.specs.{Write.{zone_bytes, plan_bytes, AfterWrite, over, after_write, write_of}, Law.Eight}
use Rattle.plan_write.proofs.Bytes.{Within, all, also, within, plan_51, write_fit}

-- What was read at the head of bytes and fulfils something, with the bytes after it: written again they are the bytes, and reading went on with both.
record Was {A B : Type 0} (P : B → Type 0) (part : B → List ℕ) (s : List ℕ) (next : B → List ℕ → Answer A) (a : A) : Type 0 where
  one : B
  after : List ℕ
  is : P one
  bytes : Again (part one ++ after) s
  go_on : next one after ≡ accepted a

-- From bytes to a value and back.
value-of : {A : Type 0} (s : List ℕ) (next : ℕ → List ℕ → Answer A) {a : A} → read_value s next ≡ accepted a → Was (λ value. Unit {0}) encode s next a
value-of s next {a} e = by (value_of s) refl e
  where
    by : (v : Answer Value) → value_of s ≡ v → hand_on v s next ≡ accepted a → Was (λ value. Unit {0}) encode s next a
    by (accepted v) q e' = record { one = v.value; after = drop v.bytes s; is = tt; bytes = again 3 s q; go_on = e' }
    by (refused k) q e' = absurd (let z : ◌≡◌ {A = ℕ} 0 1 = cc in omega arith)

of_value : {A : Type 0} (x : ℕ) (s : List ℕ) (next : ℕ → List ℕ → Answer A) → x < 2097152 → read_value (encode x ++ s) next ≡ next x s
of_value x s next h = rw (read_written 2 x s h, drop-append_seam (encode x) s)

-- From bytes to so many values and back.
values_of : {A : Type 0} (n : ℕ) (s : List ℕ) (next : List ℕ → List ℕ → Answer A) {a : A} → read_values n s next ≡ accepted a → Was (λ values. length values ≡ n) (each encode) s next a
unfolding read_values each
values_of zero s next e = record { one = []; after = s; is = refl; bytes = record { length_is = refl; same = λ b. refl }; go_on = e }
values_of (suc n) s next e =
    let v = value-of s _ e in
    let t = values_of n v.after (λ values s₁. next (v.one ∷ values) s₁) v.go_on in
    record { one = v.one ∷ t.one; after = t.after; is = ap suc t.is; bytes = rw append_assoc (again_then (encode v.one) v.bytes t.bytes); go_on = t.go_on }

of_values : {A : Type 0} {values limits : List ℕ} (s : List ℕ) (next : List ℕ → List ℕ → Answer A) → Within values limits → read_values (length values) (each encode values ++ s) next ≡ next values s
unfolding read_values each
of_values s next all = refl
of_values s next (also x most {values = values} h l w) =
    rw append_assoc (of_value x (each encode values ++ s) _ (omega arith) ∙ of_values s (λ values₁ s₁. next (x ∷ values₁) s₁) w)

-- The bytes of the zone of four values are those of the values.
zone-bytes : (values : List ℕ) → length values ≡ 4 → zone_bytes (zone_of values) ≡ each encode values
unfolding zone_bytes tabulate
zone-bytes values e = ap (each encode) (sym (tabulated 0 values 4 (λ k. get_or values k 0) e (λ k h. refl)))

-- From bytes to zones and back.
zones-of : {A : Type 0} (n size : ℕ) (before : Option ℕ) (s : List ℕ) (next : List Zone → List ℕ → Answer A) {a : A}
    → read_zones n size before s next ≡ accepted a → Was (λ zones. (length zones ≡ n) × AllYes (zones_questions size before zones)) (each zone_bytes) s next a
unfolding read_zones each
zones-of zero size before s next e = record { one = []; after = s; is = (refl, tt); bytes = record { length_is = refl; same = λ b. refl }; go_on = e }
zones-of (suc n) size before s next e =
    let h = values_of 4 s _ e in
    let z = zone_of h.one in
    let p = all_accepted (zone_questions size before z) _ h.go_on in
    let t = zones-of n size (Some z.mode) h.after (λ zones s₂. next (z ∷ zones) s₂) p.1 in
    record {
      one = z ∷ t.one;
      after = t.after;
      is = (ap suc t.is.0, yes_both (zone_questions size before z) (zones_questions size (Some z.mode) t.one) p.0 t.is.1);
      bytes = rw (zone-bytes h.one h.is, append_assoc) (again_then {written = each zone_bytes t.one ++ t.after} (each encode h.one) h.bytes t.bytes);
      go_on = t.go_on;
    }

of_zones : {A : Type 0} (size : ℕ) (before : Option ℕ) (zones : List Zone) (s : List ℕ) (next : List Zone → List ℕ → Answer A)
    → AllYes (zones_questions size before zones) → read_zones (length zones) size before (each zone_bytes zones ++ s) next ≡ next zones s
unfolding read_zones each zone_bytes
of_zones size before [] s next y = refl
of_zones size before (z ∷ zones) s next y =
    let p = yes_parts (zone_questions size before z) (zones_questions size (Some z.mode) zones) y in
    rw append_assoc
    (of_values (each zone_bytes zones ++ s) _ (within (small size z before p.0))
    ∙ sym (all_pass (zone_questions size before z) _ p.0)
    ∙ of_zones size (Some z.mode) zones s (λ zones₁ s₁. next (z ∷ zones₁) s₁) p.1)

-- A plan that was read is fit, and written again.
pub record Plan-of (s : List ℕ) (p : Plan) : Type 0 where
  pub fit : Fit p
  pub eight : Eight p
  pub bytes : Again (plan_bytes p) s

made : (n size : ℕ) (zones : List Zone) {s : List ℕ} → length zones ≡ n → is_count n ≡ true → is_four_sizes size ≡ true → AllYes (zones_questions size None zones)
    → Again (encode n ++ (encode size ++ each zone_bytes zones)) s → Plan-of s (plan_with n size zones)
unfolding plan_bytes
made n size zones e c z j b =
    let m : length zones ≤ 8 = omega (arith, count_most n c) in
    let places = places_are 8 zones m in
    let used : take n (in_places 8 zones) ≡ zones = rw (← e) places.0 in
    record {
      fit = record { count_is = c; unused_are = rw (← e) places.1; size_is = z; judged = rw used j };
      eight = places_length 8 zones;
      bytes = rw used b;
    }

pub plan-of : (s : List ℕ) {p : Plan} → plan_of s ≡ accepted p → Plan-of s p
unfolding plan_of
plan-of s e =
    let c = value-of s _ e in
    let e₁ = ask_yes (is_count c.one) 12 _ c.go_on in
    let z = value-of c.after _ e₁.1 in
    let e₂ = ask_yes (is_four_sizes z.one) 2 _ z.go_on in
    let t = zones-of c.one z.one None z.after _ e₂.1 in
    let e₃ = ask_yes (eqb (length t.after) 0) 15 _ t.go_on in
    let end : t.after ≡ [] = sym (take_all 0 t.after (omega (arith, eqb-true (length t.after) 0 e₃.0))) in
    let zones : Again (each zone_bytes t.one) z.after = rw (end, append-nil) at t.bytes in
    rw (← same_accepted e₃.1)
    (made c.one z.one t.one t.is.0 e₁.0 e₂.0 t.is.1 (again_then (encode c.one) c.bytes (again_then (encode z.one) z.bytes zones)))

-- A fit plan's bytes are read as that plan.
of_plan : (p : Plan) → Eight p → Fit p → plan_of (plan_bytes p) ≡ accepted p
unfolding plan_of plan_bytes
of_plan p l f =
    let most = count_most p.count f.count_is in
    let few = size_small p.size f.size_is in
    let used : length (used_zones p) ≡ p.count = length-take-le p.count p.zones (omega arith) in
    of_value p.count (encode p.size ++ each zone_bytes (used_zones p)) _ (omega arith)
    ∙ rw f.count_is
    (of_value p.size (each zone_bytes (used_zones p)) _ (omega arith)
    ∙ rw f.size_is
    (rw (used, append-nil) at (of_zones p.size None (used_zones p) [] (finish p.count p.size) f.judged)
    ∙ ap (λ places. accepted (record { count = p.count; size = p.size; zones = places })) (places_of 8 p.count p.zones l f.unused_are)))

-- An accepted plan written again is the same bytes.
pub same_bytes : (s : List ℕ) (p : Plan) (d : List ℕ) → Bytes s → plan_of s ≡ accepted p → length s ≤ length d → write_of p d ≡ record { answer = accepted (length s); dest = over s d }
same_bytes s p d b e h = let t = plan-of s e in sym (rw (t.bytes.same b, le-leb (length s) (length d) h) at (write_fit p d t.fit))

-- A write that is accepted leaves a fit plan's bytes at the start.
laid : (p : Plan) (d after : List ℕ) (n : ℕ) → write_of p d ≡ record { answer = accepted n; dest = after } → Fit p × (n ≡ length (plan_bytes p)) × (take n after ≡ plan_bytes p)
unfolding write_of
laid p d after n e = by (ask_plan p write) refl e
  where
    write : Answer (List ℕ)
    write = ask (leb (length (plan_bytes p)) (length d)) 16 (accepted (plan_bytes p))

    by : (a : Answer (List ℕ)) → ask_plan p write ≡ a → after_write a d ≡ record { answer = accepted n; dest = after } → Fit p × (n ≡ length (plan_bytes p)) × (take n after ≡ plan_bytes p)
    by (refused k) q e' = absurd (let o = ap (λ (o : AfterWrite). o.answer) e' in let z : ◌≡◌ {A = ℕ} 0 1 = cc in omega arith)
    by (accepted bytes) q e' =
        let h = plan_yes p write q in
        let is = same_accepted (ask_yes (leb (length (plan_bytes p)) (length d)) 16 _ h.1).1 in
        let long = same_accepted (ap (λ (o : AfterWrite). o.answer) e') in
        (h.0, rw is (sym long), rw (← long, ← ap (λ (o : AfterWrite). o.dest) e', is) (take-append_seam bytes (drop (length bytes) d)))

-- A written plan read again is the same plan.
pub same_plan : (p : Plan) (d after : List ℕ) (n : ℕ) → Eight p → write_of p d ≡ record { answer = accepted n; dest = after } → plan_of (take n after) ≡ accepted p
same_plan p d after n l e = let t = laid p d after n e in rw t.2 (of_plan p l t.0)

-- An accepted plan has at most 51 bytes, read or written.
pub read_51 : (s : List ℕ) (p : Plan) → plan_of s ≡ accepted p → length s ≤ 51
read_51 s p e = let t = plan-of s e in omega (arith, t.bytes.length_is, plan_51 t.fit)

pub written_51 : (p : Plan) (d after : List ℕ) (n : ℕ) → write_of p d ≡ record { answer = accepted n; dest = after } → n ≤ 51
written_51 p d after n e = let t = laid p d after n e in omega (arith, plan_51 t.0, t.1)
