-- The laws of the values of a plan file.
use Rattle.base.proofs.Prelude.{◌≡◌, refl, sym, ap, ◌∙◌, List, [], ◌∷◌, ◌++◌, ℕ, zero, suc, ◌+◌, ◌*◌, ◌/◌, ◌%◌, ◌<◌, ◌≤◌, arith, ltb, length, take}
use Rattle.base.proofs.Prelude.{drop, ltb-true, ltb-false, lt-ltb, le-ltb}
use Rattle.base.proofs.{Chain.{ask_yes, same_accepted}, Test.cases}
use lib.{ListN.{length-append, length-take}, Seq.get_or-append-add}
use Rattle.base.specs.Answer.{Answer, accepted, refused}
use Rattle.value.specs.{declared.Value.Value, Value.{Bytes, more, value_in, value_of, encode_in, encode}}
use Prim.Native.Nat.{◌^◌}

-- A first byte that is the last one, and one that more follow, whose further groups are worth something or nothing.
module _ (g a : ℕ) (s : List ℕ) where
  pub last : a < 128 → value_in (suc g) (a ∷ s) ≡ accepted (record { value = a; bytes = 1 })
  unfolding value_in
  last l = rw (lt-ltb a 128 l)

  pub follow : 128 ≤ a → value_in (suc g) (a ∷ s) ≡ more a (value_in g s)
  unfolding value_in
  follow m = rw (le-ltb a 128 m)

module _ (a x n : ℕ) where
  pub some : (x ≡ 0 → ⊥) → more a (accepted (record { value = x; bytes = n })) ≡ accepted (record { value = a % 128 + 128 * x; bytes = suc n })
  some h = rw (lt-ltb 0 x (omega arith))

  pub nil : x ≡ 0 → more a (accepted (record { value = x; bytes = n })) ≡ refused 11
  nil h = rw (le-ltb 0 x (omega arith))

-- the bytes of a value, by their number
module _ (x : ℕ) where
  pub encode_1 : x < 128 → encode x ≡ x ∷ []
  unfolding encode_in
  encode_1 h = rw (lt-ltb x 128 h)

  pub encode_2 : 128 ≤ x → x < 16384 → encode x ≡ (x % 128 + 128) ∷ x / 128 ∷ []
  unfolding encode_in
  encode_2 m h = rw (le-ltb x 128 m, lt-ltb (x / 128) 128 (omega arith))

  pub encode_3 : 16384 ≤ x → x < 2097152 → encode x ≡ (x % 128 + 128) ∷ (x / 128 % 128 + 128) ∷ x / 16384 ∷ []
  unfolding encode_in
  encode_3 m h = rw (le-ltb x 128 (omega arith), le-ltb (x / 128) 128 (omega arith), div_div, lt-ltb (x / 16384) 128 (omega arith))
    where
      div_div : x / 128 / 128 ≡ x / 16384
      div_div = omega arith

-- A value that was written is read, with the number of its bytes, whatever bytes follow.
pub read_written : (g x : ℕ) (rest : List ℕ) → x < 128 ^ suc g → value_in (suc g) (encode_in (suc g) x ++ rest) ≡ accepted (record { value = x; bytes = length (encode_in (suc g) x) })
unfolding encode_in
read_written zero x rest h = rw (lt-ltb x 128 (omega arith)) (last 0 x rest (omega arith))
read_written (suc g) x rest h =
    cases (ltb x 128)
    (λ e. rw e (last (suc g) x rest (ltb-true x 128 e)))
    (λ e. let m = ltb-false x 128 e in
    rw (e, follow (suc g) (x % 128 + 128) (encode_in (suc g) (x / 128) ++ rest) (omega arith), read_written g (x / 128) rest (omega arith))
    (some (x % 128 + 128) (x / 128) (length (encode_in (suc g) (x / 128))) (λ z. omega arith) ∙ ap (λ y. accepted (record { value = y; bytes = suc (length (encode_in (suc g) (x / 128))) })) (omega arith)))

-- A value takes no more bytes than a larger one.
pub no_longer : (g : ℕ) {x y : ℕ} → x ≤ y → length (encode_in g x) ≤ length (encode_in g y)
unfolding encode_in
no_longer zero h = omega arith
no_longer (suc g) {x} {y} h =
    cases (ltb x 128)
    (λ e. rw e (cases (ltb y 128) (λ f. rw f (omega arith)) (λ f. rw f (omega arith))))
    (λ e. let m = ltb-false x 128 e in rw (e, le-ltb y 128 (omega arith)) (omega (arith, no_longer g {x = x / 128} {y = y / 128} (omega arith))))

-- What was read is written again: as many bytes, and the same where they are bytes.
pub record Again (written read : List ℕ) : Type 0 where
  pub length_is : length written ≡ length read
  pub same : Bytes read → written ≡ read

-- and so is what follows the first that was read
pub again_then : {s after written : List ℕ} (first : List ℕ) → Again (first ++ after) s → Again written after → Again (first ++ written) s
again_then {s} {after} {written} first a b =
    record {
      length_is = omega (arith, length-append first written, b.length_is, length-append first after, a.length_is);
      same = λ bytes. let e = a.same bytes in
          ap (λ l. first ++ l) (b.same (λ k. rw (← get_or-append-add first after k 0, e) (bytes (length first + k)))) ∙ e;
    }

-- a value whose first byte more follow: its further groups are worth something
record Followed (a : ℕ) (rest : Answer Value) (v : Value) : Type 0 where
  further : Value
  rest_is : rest ≡ accepted further
  worth : 0 < further.value
  value_is : v ≡ record { value = a % 128 + 128 * further.value; bytes = suc further.bytes }

followed : (a : ℕ) (rest : Answer Value) {v : Value} → more a rest ≡ accepted v → Followed a rest v
followed a (accepted w) e =
    let yes' = ask_yes (ltb 0 w.value) 11 (accepted (record { value = a % 128 + 128 * w.value; bytes = suc w.bytes })) e in
    record { further = w; rest_is = refl; worth = ltb-true 0 w.value yes'.0; value_is = sym (same_accepted yes'.1) }
followed a (refused k) e = absurd (let z : ◌≡◌ {A = ℕ} 0 1 = cc in omega arith)

-- A value that was read lies within the bytes.
pub bytes_within : (g : ℕ) (s : List ℕ) {v : Value} → value_in g s ≡ accepted v → v.bytes ≤ length s
unfolding value_in
bytes_within zero s e = absurd (let z : ◌≡◌ {A = ℕ} 0 1 = cc in omega arith)
bytes_within (suc g) [] e = absurd (let z : ◌≡◌ {A = ℕ} 0 1 = cc in omega arith)
bytes_within (suc g) (a ∷ s) {v} e =
    cases (ltb a 128)
    (λ l. let q = same_accepted (sym (last g a s (ltb-true a 128 l)) ∙ e) in rw (← q) (omega arith))
    (λ m. let f = followed a (value_in g s) (sym (follow g a s (ltb-false a 128 m)) ∙ e) in
    let h = bytes_within g s f.rest_is in
    rw f.value_is (omega arith))

-- It is decided by as many bytes as it may have groups, and takes no more.
pub first_decide : (g k : ℕ) (s : List ℕ) → g ≤ k → value_in g (take k s) ≡ value_in g s
unfolding value_in
first_decide zero k s h = refl
first_decide (suc g) zero s h = absurd (omega arith)
first_decide (suc g) (suc k) [] h = refl
first_decide (suc g) (suc k) (a ∷ s) h = rw (first_decide g k s (omega arith))

pub at_most_three : (s : List ℕ) {v : Value} → value_of s ≡ accepted v → v.bytes ≤ 3
at_most_three s e = omega (arith, bytes_within 3 (take 3 s) (first_decide 3 3 s (omega arith) ∙ e), length-take 3 s)

-- A value that was read is written again.
more_byte : (g a x : ℕ) → 0 < x → encode_in (suc g) (a % 128 + 128 * x) ≡ (a % 128 + 128) ∷ encode_in g x
unfolding encode_in
more_byte g a x w = rw (le-ltb (a % 128 + 128 * x) 128 (omega arith), low, high)
  where
    low : (a % 128 + 128 * x) % 128 + 128 ≡ a % 128 + 128
    low = omega arith

    high : (a % 128 + 128 * x) / 128 ≡ x
    high = omega arith

pub again : (g : ℕ) (s : List ℕ) {v : Value} → value_in g s ≡ accepted v → Again (encode_in g v.value ++ drop v.bytes s) s
unfolding value_in encode_in
again zero s e = absurd (let z : ◌≡◌ {A = ℕ} 0 1 = cc in omega arith)
again (suc g) [] e = absurd (let z : ◌≡◌ {A = ℕ} 0 1 = cc in omega arith)
again (suc g) (a ∷ s) {v} e =
    cases (ltb a 128)
    (λ l. rw (← same_accepted (sym (last g a s (ltb-true a 128 l)) ∙ e), l) (record { length_is = refl; same = λ b. refl }))
    (λ m. let f = followed a (value_in g s) (sym (follow g a s (ltb-false a 128 m)) ∙ e) in
    let t = again g s f.rest_is in
    rw (f.value_is, more_byte g a f.further.value f.worth)
    (record {
      length_is = ap suc t.length_is;
      same = λ b. cc (top a (ltb-false a 128 m) (b 0), t.same (λ k. b (suc k)));
    }))
  where
    top : (a : ℕ) → 128 ≤ a → a < 256 → a % 128 + 128 ≡ a
    top a m h = omega arith
