-- The test that a pass over the 48 places is lent.
use Rattle.std.specs.Prelude.{◌≡◌, Bool, ℕ, ◌<◌}

-- it answers `hit` at each of the 48
abbrev pub Decides : (post : ℕ → Bool → Type 0) (hit : ℕ → Bool) → Type 0
Decides post hit = (k : ℕ) (same : Bool) → k < 48 → post k same → same ≡ hit k
