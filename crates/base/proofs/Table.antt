-- The rule of a table, proved at all of its entries by one test that is computed, one entry after the other.
use Rattle.base.proofs.Prelude.{◌≡◌, ◌∙◌, subst, sym, Bool, true, List, [], ◌∷◌, ℕ, zero, suc, ◌+◌, ◌<◌, T, eqb, ltb, eqb→eq, ltb→lt, length}
use Rattle.base.proofs.Prelude.{get_or, eqb-true, eqb-false}
use Rattle.base.proofs.{Test.{both, both_left, both_right, cases}, Perm.Perm}
use native.Mathlib.Nat.{add-zero, zero-add, add-suc, suc-add, le_of_suc-le-suc, not-suc-le-zero}
use lib.Arith.{lt_of_le-ne}
use Rattle.base.specs.{Steps.entry, Permutation.Permutation}

-- the test passes at each entry of the table and its place, counted from i
abbrev pub every : (ℕ → ℕ → Bool) → ℕ → List ℕ → Bool
every f i [] = true
every f i (x ∷ xs) = both (f i x) (every f (suc i) xs)

from : (f : ℕ → ℕ → Bool) (xs : List ℕ) (i : ℕ) → T (every f i xs) → (k : ℕ) → k < length xs → T (f (i + k) (entry xs k))
from f [] i t k h = absurd (not-suc-le-zero h)
from f (x ∷ xs) i t zero h = subst (λ (m : ℕ). T (f m x)) (sym (add-zero i)) (both_left (f i x) (every f (suc i) xs) t)
from f (x ∷ xs) i t (suc k) h =
    subst (λ (m : ℕ). T (f m (get_or xs k 0))) (suc-add i k ∙ sym (add-suc i k))
    (from f xs (suc i) (both_right (f i x) (every f (suc i) xs) t) k (le_of_suc-le-suc h))

pub at : (f : ℕ → ℕ → Bool) (xs : List ℕ) → T (every f 0 xs) → (k : ℕ) → k < length xs → T (f k (entry xs k))
at f xs t k h = subst (λ (m : ℕ). T (f m (get_or xs k 0))) (zero-add k) (from f xs 0 t k h)

-- the test passes at each number below n
abbrev pub all : (ℕ → Bool) → ℕ → Bool
all f zero = true
all f (suc n) = both (f n) (all f n)

pub all_at : (f : ℕ → Bool) (n : ℕ) → T (all f n) → (k : ℕ) → k < n → T (f k)
all_at f zero t k h = absurd (not-suc-le-zero h)
all_at f (suc n) t k h =
    cases (eqb k n)
    (λ e. subst (λ (m : ℕ). T (f m)) (sym (eqb-true k n e)) (both_left (f n) (all f n) t))
    (λ e. all_at f n (both_right (f n) (all f n) t) k (lt_of_le-ne (le_of_suc-le-suc h) (eqb-false k n e)))

-- a table and its inverse: each entry of one is below n and leads back by the other
abbrev pub leads_back : ℕ → List ℕ → ℕ → ℕ → Bool
leads_back n other i x = both (ltb x n) (eqb (entry other x) i)

module _ (n : ℕ) (xs ys : List ℕ) (long : length xs ≡ n) (test : T (every (leads_back n ys) 0 xs)) where
  passed : (x : ℕ) → x < n → T (leads_back n ys x (entry xs x))
  passed x h = at (leads_back n ys) xs test x (subst (λ (m : ℕ). x < m) (sym long) h)

  entry_lt : (x : ℕ) → x < n → entry xs x < n
  entry_lt x h = ltb→lt (entry xs x) n (both_left (ltb (entry xs x) n) (eqb (entry ys (entry xs x)) x) (passed x h))

  entry_back : (x : ℕ) → x < n → entry ys (entry xs x) ≡ x
  entry_back x h = eqb→eq (entry ys (entry xs x)) x (both_right (ltb (entry xs x) n) (eqb (entry ys (entry xs x)) x) (passed x h))

pub table_perm : (n : ℕ) (xs ys : List ℕ) → length xs ≡ n → length ys ≡ n
    → T (every (leads_back n ys) 0 xs) → T (every (leads_back n xs) 0 ys) → Perm n (entry xs) (entry ys)
table_perm n xs ys long long' test test' =
    record {
      to_lt = entry_lt n xs ys long test;
      from_lt = entry_lt n ys xs long' test';
      back = entry_back n xs ys long test;
      forth = entry_back n ys xs long' test';
    }

pub permutation : {n : ℕ} {xs ys : List ℕ} → length xs ≡ n → Perm n (entry xs) (entry ys) → Permutation n xs ys
permutation long perm = record { long = long; number_lt = perm.to_lt; place_lt = perm.from_lt; back = perm.back; forth = perm.forth }
