-- Ranks: the numbers that pass a test, counted.
use Rattle.base.proofs.Prelude.{◌≡◌, refl, ap, ◌∙◌, Bool, true, false, ℕ, zero, suc, ◌+◌, ◌<◌, ◌≤◌, arith, eqb, ltb, eqb-true, eqb-false}
use Rattle.base.proofs.Prelude.{lt-ltb, le-ltb, ltb-true, ltb-false}
use Rattle.base.proofs.Test.{cases}
use native.Mathlib.Nat.{not-suc-le-zero, add-suc}
use Rattle.base.specs.Rank.{rank, unrank, RankLaw}

module _ (test : ℕ → Bool) where
  -- one number more
  pub rank_yes : (n : ℕ) → test n ≡ true → rank test (suc n) ≡ rank test n + 1
  unfolding rank
  rank_yes n e = rw e

  pub rank_no : (n : ℕ) → test n ≡ false → rank test (suc n) ≡ rank test n
  unfolding rank
  rank_no n e = rw e (omega arith)

  rank_le : (n : ℕ) → rank test n ≤ rank test (suc n)
  unfolding rank
  rank_le n = omega arith

  below : (n s : ℕ) → s < n → test s ≡ true → rank test s < rank test n
  below zero s h e = absurd (not-suc-le-zero h)
  below (suc n) s h e =
      cases (eqb s n)
      (λ t. let same = eqb-true s n t in omega (arith, rank_yes s e, ap (λ (k : ℕ). rank test (suc k)) same))
      (λ t. let other = eqb-false s n t in omega (arith, below n s (omega arith) e, rank_le n))

  back : (n s : ℕ) → s < n → test s ≡ true → unrank test n (rank test s) ≡ s
  unfolding unrank
  back zero s h e = absurd (not-suc-le-zero h)
  back (suc n) s h e =
      cases (eqb s n)
      (λ t. let same = eqb-true s n t in
      rw (same, le-ltb (rank test n) (rank test n) (omega arith)))
      (λ t. let other = eqb-false s n t in
      let lt : s < n = omega arith in
      rw (lt-ltb (rank test s) (rank test n) (below n s lt e)) (back n s lt e))

  -- a rank below that of n + 1 but not below that of n is n's own
  last : (n r : ℕ) → r < rank test (suc n) → rank test n ≤ r → (test n ≡ true) × (rank test n ≡ r)
  last n r h l =
      cases (test n)
      (λ e. (e, omega (arith, rank_yes n e)))
      (λ e. absurd (omega (arith, rank_no n e)))

  found : (n r : ℕ) → r < rank test n → (unrank test n r < n) × (test (unrank test n r) ≡ true) × (rank test (unrank test n r) ≡ r)
  unfolding rank unrank
  found zero r h = absurd (not-suc-le-zero h)
  found (suc n) r h =
      cases (ltb r (rank test n))
      (λ t. let f = found n r (ltb-true r (rank test n) t) in rw t (omega (arith, f.0), f.1, f.2))
      (λ t. let f = last n r h (ltb-false r (rank test n) t) in rw t (omega arith, f.0, f.1))

  pub rank_law : (n : ℕ) → RankLaw test n
  rank_law n =
      record {
        rank_lt = below n;
        back = back n;
        unrank_lt = λ r h. (found n r h).0;
        unrank_passes = λ r h. (found n r h).1;
        forth = λ r h. (found n r h).2;
      }

  pub rank_most : (n : ℕ) → rank test n ≤ n
  unfolding rank
  rank_most zero = omega arith
  rank_most (suc n) =
      cases (test n)
      (λ e. omega (arith, rank_yes n e, rank_most n))
      (λ e. omega (arith, rank_no n e, rank_most n))

  -- where all pass, a number is its own rank
  pub rank_all : (n : ℕ) → ((s : ℕ) → s < n → test s ≡ true) → rank test n ≡ n
  unfolding rank
  rank_all zero every = refl
  rank_all (suc n) every = rank_yes n (every n (omega arith)) ∙ omega (arith, rank_all n (λ s h. every s (omega arith)))

  -- and from a number on, as long as all pass, ranks go up by one
  pub rank_run : (a n : ℕ) → ((k : ℕ) → k < n → test (a + k) ≡ true) → rank test (a + n) ≡ rank test a + n
  rank_run a zero every = let e : a + 0 ≡ a = omega arith in rw e (omega arith)
  rank_run a (suc n) every =
      ap (rank test) (add-suc a n) ∙ rank_yes (a + n) (every n (omega arith))
      ∙ omega (arith, rank_run a n (λ k h. every k (omega arith)))

-- ranks go by what the test says
pub rank_as : (f g : ℕ → Bool) (n : ℕ) → ((s : ℕ) → f s ≡ g s) → rank f n ≡ rank g n
unfolding rank
rank_as f g zero same = refl
rank_as f g (suc n) same = rw (rank_as f g n same, same n)
