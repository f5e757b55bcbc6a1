-- A list as a function of the position.
use Rattle.std.specs.Prelude.{List, [], ◌∷◌, ℕ, zero, suc}

-- the values at 0, 1, .., n-1
unfoldable pub tabulate : {A : Type 0} (n : ℕ) (f : ℕ → A) → List A
tabulate zero f = []
tabulate (suc n) f = f 0 ∷ tabulate n (λ k. f (suc k))
