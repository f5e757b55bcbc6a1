-- How the columns of data numbers are found fast. No reader needs this to know what the calls do.
use Rattle.std.specs.Prelude.{◌≡◌, Bool, List, ℕ, ◌+◌, ◌<◌, ◌≤◌, ltb, length}
use Rattle.base.specs.Rank.{rank}
use Rattle.base.specs.Steps.{entry}

-- Has the data number before d passed the pilot that has i pilots before it?
abbrev pub is_before : (pilots : List ℕ) (d i : ℕ) → Bool
is_before pilots d i = ltb (entry pilots i) (d + i)

-- how many pilots more each data number is moved on by than the one before it, of the first n pilots
pub record Moves (pilots : List ℕ) (n : ℕ) (table : List ℕ) : Type 0 where
  pub long : length table ≡ 1537
  pub each : (d : ℕ) → d < 1537 → entry table d + rank (is_before pilots d) n ≡ rank (is_before pilots (d + 1)) n

-- the first j pilots are passed by data number d
pub record Passed (pilots : List ℕ) (d j : ℕ) : Type 0 where
  pub within : j ≤ 166
  pub each : (i : ℕ) → i < j → entry pilots i ≤ d + i
