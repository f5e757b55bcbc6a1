-- Counting marks.
use Rattle.base.proofs.Prelude.{◌≡◌, Bool, true, false, ℕ, zero, suc, ◌+◌, ◌≤◌, arith}
use Rattle.base.specs.{Choice.pick, Tabulate.tabulate}
use Rattle.collision.specs.Collision.{count_of}

abbrev pub one : Bool → ℕ
one hit = pick hit 1 0

pub one_le : (hit : Bool) → one hit ≤ 1
one_le true = omega arith
one_le false = omega arith

pub count_last : (n : ℕ) (hit : ℕ → Bool) → count_of (tabulate (suc n) hit) ≡ count_of (tabulate n hit) + one (hit n)
unfolding tabulate count_of
count_last zero hit = omega arith
count_last (suc n) hit = omega (arith, count_last n (λ k. hit (suc k)))

pub count_le : (n : ℕ) (hit : ℕ → Bool) → count_of (tabulate n hit) ≤ n
unfolding tabulate count_of
count_le zero hit = omega arith
count_le (suc n) hit = omega (arith, one_le (hit 0), count_le n (λ k. hit (suc k)))
