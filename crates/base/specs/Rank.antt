-- Counting the numbers that pass a test.
use Rattle.std.specs.Prelude.{◌≡◌, Bool, true, ℕ, zero, suc, ◌+◌, ◌<◌, ltb}
use Rattle.base.specs.Choice.{pick}

-- how many numbers below n pass: the rank of n among those that do
unfoldable pub rank : (test : ℕ → Bool) (n : ℕ) → ℕ
rank test zero = 0
rank test (suc n) = rank test n + pick (test n) 1 0

-- The reverse: the number below n that has rank r among those that pass.
unfoldable pub unrank : (test : ℕ → Bool) (n r : ℕ) → ℕ
unrank test zero r = 0
unrank test (suc n) r = pick (ltb r (rank test n)) (unrank test n r) n

-- What is claimed of the two: the numbers below n that pass, and the ranks below their count, are the same, one for one. (Its proof is `rank_law`.)
pub record RankLaw (test : ℕ → Bool) (n : ℕ) : Type 0 where
  pub rank_lt : (s : ℕ) → s < n → test s ≡ true → rank test s < rank test n
  pub back : (s : ℕ) → s < n → test s ≡ true → unrank test n (rank test s) ≡ s
  pub unrank_lt : (r : ℕ) → r < rank test n → unrank test n r < n
  pub unrank_passes : (r : ℕ) → r < rank test n → test (unrank test n r) ≡ true
  pub forth : (r : ℕ) → r < rank test n → rank test (unrank test n r) ≡ r
