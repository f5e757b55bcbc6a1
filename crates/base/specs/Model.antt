-- What inner functions say of a row of numbers. No reader needs this to know what the calls do.
use Rattle.std.specs.Prelude.{◌≡◌, List, ℕ, ◌+◌, ◌%◌, ◌<◌}
use Rattle.base.specs.Steps.{entry}

-- the entries at 0, 1, .., n-1 are those of f; what follows them is left open
abbrev pub Starts : (n : ℕ) (f : ℕ → ℕ) (table : List ℕ) → Type 0
Starts n f table = (k : ℕ) → k < n → entry table k ≡ f k

-- the first n entries are below a limit
abbrev pub Below : (n limit : ℕ) (table : List ℕ) → Type 0
Below n limit table = (k : ℕ) → k < n → entry table k < limit

-- a row of 48 that has f 0, f 1, .. from place `by` on, and goes on at its start
abbrev pub Turned : (by : ℕ) (f : ℕ → ℕ) (row : List ℕ) → Type 0
Turned by f row = (m : ℕ) → m < 48 → entry row ((m + by) % 48) ≡ f m
