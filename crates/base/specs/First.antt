-- The first number that passes a test.
use Rattle.std.specs.Prelude.{Bool, ℕ, zero, suc, eqb}
use Rattle.base.specs.Choice.{pick}

-- among 0, 1, .., n-1; n where none of them passes
unfoldable pub first_of : (test : ℕ → Bool) (n : ℕ) → ℕ
first_of test zero = 0
first_of test (suc n) = pick (test 0) 0 (suc (first_of (λ k. test (suc k)) n))

-- Does none of them pass?
abbrev pub is_none : (test : ℕ → Bool) (n : ℕ) → Bool
is_none test n = eqb (first_of test n) n
