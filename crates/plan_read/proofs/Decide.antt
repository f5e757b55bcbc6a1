-- The first bytes decide: each value looks at three bytes at most, and the last question at whether there is one more.
use Rattle.std.specs.Prelude.{Option, Some, None}
use Rattle.base.proofs.{Prelude.{◌≡◌, refl, ap, ◌∙◌, List, [], ◌∷◌, ℕ, zero, suc, ◌+◌, ◌-◌, ◌*◌, ◌≤◌, arith, length, take, drop, ne_eqb}, Test.cases}
use lib.{ListN.{length-append, length-drop}, Seq.{drop_at, take-add, length-take-le}}
use Rattle.base.specs.{Choice.pick, Answer.{Answer, accepted, refused, ask}}
use Rattle.modes.specs.Question.{is_four_sizes}
use Rattle.value.specs.{declared.Value.Value, Value.{value_of, encode_in}}
use Rattle.value.proofs.Laws.{no_longer, bytes_within, again, first_decide, at_most_three}
use Rattle.zone.specs.{declared.Zone.Zone, Zone.{zone_of, ask_zone}}
use Rattle.plan.specs.Plan.{is_count}
use Rattle.plan.proofs.Judge.{count_most}
use Rattle.plan_read.specs.Read.{hand_on, read_value, read_values, read_zones, finish, plan_of}

-- k bytes decide what is read, and so do more
abbrev Decided : {A : Type 0} → ℕ → (List ℕ → Answer A) → Type 0
Decided k read = (j : ℕ) → k ≤ j → (s : List ℕ) → read (take j s) ≡ read s

drop_take : (n m : ℕ) (s : List ℕ) → n ≤ length s → drop n (take (n + m) s) ≡ take m (drop n s)
drop_take n m s h = rw take-add (drop_at (take n s) (take m (drop n s)) n (length-take-le n s h))

-- after a value, so many bytes more as it needs
then_more : {A : Type 0} (n : ℕ) (more : ℕ → ℕ) (next : ℕ → List ℕ → Answer A) → 3 ≤ n → ((s : List ℕ) (v : Value) → value_of s ≡ accepted v → v.bytes + more v.value ≤ n)
    → ((value : ℕ) → Decided (more value) (next value)) → Decided n (λ s. read_value s next)
then_more n more next three most d j h s = ap (λ v. hand_on v (take j s) next) (first_decide 3 j s (omega arith)) ∙ by (value_of s) refl
  where
    by : (v : Answer Value) → value_of s ≡ v → hand_on v (take j s) next ≡ hand_on v s next
    by (refused number) q = refl
    by (accepted v) q =
        let few = most s v q in
        let more-is : v.bytes + (j - v.bytes) ≡ j = omega arith in
        ap (next v.value) (rw more-is at (drop_take v.bytes (j - v.bytes) s (bytes_within 3 s q))) ∙ d v.value (j - v.bytes) (omega arith) (drop v.bytes s)

value_decided : {A : Type 0} (k : ℕ) (next : ℕ → List ℕ → Answer A) → ((value : ℕ) → Decided k (next value)) → Decided (3 + k) (λ s. read_value s next)
value_decided k next d = then_more (3 + k) (λ value. k) next (omega arith) (λ s v q. omega (arith, at_most_three s q)) d

-- and so over how many values there are
values_decided : {A : Type 0} (n k : ℕ) (next : List ℕ → List ℕ → Answer A) → ((values : List ℕ) → Decided k (next values)) → Decided (3 * n + k) (λ s. read_values n s next)
unfolding read_values
values_decided zero k next d j h s = d [] j (omega arith) s
values_decided (suc n) k next d j h s =
    value_decided (3 * n + k) _ (λ value. values_decided n k (λ values. next (value ∷ values)) (λ values. d (value ∷ values))) j (omega arith) s

zones_decided : {A : Type 0} (count k size : ℕ) (before : Option ℕ) (next : List Zone → List ℕ → Answer A) → ((zones : List Zone) → Decided k (next zones))
    → Decided (12 * count + k) (λ s. read_zones count size before s next)
unfolding read_zones
zones_decided zero k size before next d j h s = d [] j (omega arith) s
zones_decided (suc count) k size before next d j h s =
    values_decided 4 (12 * count + k) _
    (λ values i l t. let zone = zone_of values in ap (ask_zone size before zone) (zones_decided count k size (Some zone.mode) (λ zones. next (zone ∷ zones)) (λ zones. d (zone ∷ zones)) i l t))
    j (omega arith) s

finish_decided : (count size : ℕ) (zones : List Zone) → Decided 1 (finish count size zones)
finish_decided count size zones zero h s = absurd (omega arith)
finish_decided count size zones (suc j) h [] = refl
finish_decided count size zones (suc j) h (x ∷ s) = rw (ne_eqb (length (x ∷ take j s)) 0 (λ z. omega arith), ne_eqb (length (x ∷ s)) 0 (λ z. omega arith))

-- A count takes one byte, the size and four values of each of eight zones 99 at most, so 100 bytes and one more decide; a count above 8 has no zone read.
count_byte : (s : List ℕ) {v : Value} → value_of s ≡ accepted v → v.value ≤ 8 → v.bytes ≤ 1
unfolding encode_in
count_byte s {v} q h = omega (arith, no_longer 3 h, bytes_within 3 s q, simp (length-append, length-drop) at (again 3 s q).length_is)

abbrev after_count : (count : ℕ) → ℕ
after_count count = pick (is_count count) 100 0

count_decided : (count : ℕ) → Decided (after_count count) (λ s. ask (is_count count) 12 (read_value s (λ size s₁. ask (is_four_sizes size) 2 (read_zones count size None s₁ (finish count size)))))
count_decided count j h s =
    cases (is_count count)
    (λ e. rw e
    (value_decided 97 _ (λ size i l t.
    ap (ask (is_four_sizes size) 2) (zones_decided count 1 size None (finish count size) (finish_decided count size) i (omega (arith, count_most count e)) t))
    j (rw e at h) s))
    (λ e. rw e)

pub first_bytes : (k : ℕ) (s : List ℕ) → 101 ≤ k → plan_of (take k s) ≡ plan_of s
unfolding plan_of
first_bytes k s h = then_more 101 after_count _ (omega arith) most count_decided k h s
  where
    most : (s₁ : List ℕ) (v : Value) → value_of s₁ ≡ accepted v → v.bytes + after_count v.value ≤ 101
    most s₁ v q =
        cases (is_count v.value)
        (λ e. rw e (omega (arith, count_byte s₁ q (count_most v.value e))))
        (λ e. rw e (omega (arith, at_most_three s₁ q)))
