-- The first number that passes a test: those before it fail, it passes where it is below n, and no other number is so.
use Rattle.base.proofs.Prelude.{◌≡◌, refl, sym, Bool, true, false, ℕ, zero, suc, ◌+◌, ◌<◌, ◌≤◌, arith, eqb, ltb, eq-eqb, ne_eqb, eqb-true}
use Rattle.base.proofs.Prelude.{eqb-false, ltb-true, ltb-false}
use Rattle.base.proofs.Test.{cases, true_false}
use mathlib.Core.Bool.{not, ◌||◌}
use native.Mathlib.Nat.{not-suc-le-zero}
use borrow.Author.Count.{below_none, below_more}
use Rattle.base.specs.First.{first_of, is_none}

-- the numbers below n fail
abbrev pub None : (test : ℕ → Bool) (n : ℕ) → Type 0
None test n = (k : ℕ) → k < n → test k ≡ false

pub none_more : (test : ℕ → Bool) (n : ℕ) → None test n → test n ≡ false → None test (n + 1)
none_more test n h e = below_more (λ k. test k ≡ false) n h e

pub first_most : (test : ℕ → Bool) (n : ℕ) → first_of test n ≤ n
unfolding first_of
first_most test zero = omega arith
first_most test (suc n) =
    cases (test 0)
    (λ e. rw e (omega arith))
    (λ e. rw e (omega (arith, first_most (λ k. test (suc k)) n)))

pub first_before : (test : ℕ → Bool) (n : ℕ) → None test (first_of test n)
unfolding first_of
first_before test zero k h = absurd (not-suc-le-zero h)
first_before test (suc n) zero h =
    cases (test 0)
    (λ e. absurd (let z = rw e at h in omega arith))
    (λ e. e)
first_before test (suc n) (suc k) h =
    cases (test 0)
    (λ e. absurd (let z = rw e at h in omega arith))
    (λ e. let l = rw e at h in first_before (λ j. test (suc j)) n k (omega arith))

pub first_passes : (test : ℕ → Bool) (n : ℕ) → first_of test n < n → test (first_of test n) ≡ true
unfolding first_of
first_passes test zero h = absurd (not-suc-le-zero h)
first_passes test (suc n) h =
    cases (test 0)
    (λ e. rw (e, e))
    (λ e. let l = rw e at h in rw e (first_passes (λ j. test (suc j)) n (omega arith)))

-- it goes by what the test says
pub first_as : (f g : ℕ → Bool) (n : ℕ) → ((k : ℕ) → k < n → f k ≡ g k) → first_of f n ≡ first_of g n
unfolding first_of
first_as f g zero same = refl
first_as f g (suc n) same = rw (same 0 (omega arith), first_as (λ k. f (suc k)) (λ k. g (suc k)) n (λ k h. same (suc k) (omega arith)))

module _ (test : ℕ → Bool) (n : ℕ) where
  -- a number that passes, with none before it, is the first
  pub first_is : (i : ℕ) → i < n → None test i → test i ≡ true → first_of test n ≡ i
  first_is i h before e =
      cases (ltb (first_of test n) i)
      (λ t. let l = ltb-true (first_of test n) i t in absurd (true_false (rw (first_passes test n (omega arith)) at (before (first_of test n) l))))
      (λ t. let l = ltb-false (first_of test n) i t in
      cases (eqb (first_of test n) i)
      (λ s. eqb-true (first_of test n) i s)
      (λ s. let ne = eqb-false (first_of test n) i s in absurd (true_false (rw e at (first_before test n i (omega arith))))))

  pub first_none : None test n → first_of test n ≡ n
  first_none before =
      cases (ltb (first_of test n) n)
      (λ t. let l = ltb-true (first_of test n) n t in absurd (true_false (rw (first_passes test n l) at (before (first_of test n) l))))
      (λ t. omega (arith, ltb-false (first_of test n) n t, first_most test n))

  pub none_is : None test n → is_none test n ≡ true
  none_is before = eq-eqb (first_of test n) n (first_none before)

  pub none_not : (i : ℕ) → i < n → test i ≡ true → is_none test n ≡ false
  none_not i h e = ne_eqb (first_of test n) n (λ s. true_false (rw e at (first_before test n i (omega arith))))

  pub none_of : is_none test n ≡ true → None test n
  none_of e k h = first_before test n k (omega (arith, eqb-true (first_of test n) n e))

-- What a loop knows that asks the numbers below n one by one, after j of them.
pub record Asking (test : ℕ → Bool) (n : ℕ) (found : Bool) (j : ℕ) : Type 0 where
  pub none_yet : found ≡ false → None test j
  pub one : found ≡ true → is_none test n ≡ false

module _ {test : ℕ → Bool} {n : ℕ} where
  pub asking : Asking test n false 0
  asking = record { none_yet = λ e. below_none _; one = λ e. absurd (true_false (sym e)) }

  pub asking_next : {found : Bool} {j : ℕ} → Asking test n found j → j < n → (t : Bool) → t ≡ test j → Asking test n (found || t) (j + 1)
  asking_next {found = true} a h t e = record { none_yet = λ q. absurd (true_false q); one = λ q. a.one refl }
  asking_next {found = false} {j = j} a h true e = record { none_yet = λ q. absurd (true_false q); one = λ q. none_not test n j h (sym e) }
  asking_next {found = false} {j = j} a h false e = record { none_yet = λ q. none_more test j (a.none_yet refl) (sym e); one = λ q. absurd (true_false (sym q)) }

  pub asked : {found : Bool} {j : ℕ} → Asking test n found j → n ≤ j → not found ≡ is_none test n
  asked {found = true} a h = sym (a.one refl)
  asked {found = false} a h = sym (none_is test n (λ k l. a.none_yet refl k (omega arith)))
