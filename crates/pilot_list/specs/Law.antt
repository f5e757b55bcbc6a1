-- What is claimed of an accepted list. Its proof is `left_law`.
use Rattle.std.specs.Prelude.{◌≡◌, false, List, ℕ, ◌<◌}
use Rattle.base.specs.Rank.{rank}
use Rattle.pilot_list.specs.List.{is_in, is_left, used_of_data, data_of_used}

-- 1536 used numbers are left; data numbers and these are the same, one for one and in the same order.
pub record LeftLaw (list : List ℕ) : Type 0 where
  pub left : rank (is_left list) 1702 ≡ 1536
  -- Each data number has a used number, no pilot, and is that used number's data number.
  pub used_lt : (d : ℕ) → d < 1536 → used_of_data list d < 1702
  pub no_pilot : (d : ℕ) → d < 1536 → is_in list (used_of_data list d) ≡ false
  pub back : (d : ℕ) → d < 1536 → data_of_used list (used_of_data list d) ≡ d
  -- Each used number that is no pilot has a data number, and is that data number's used number.
  pub data_lt : (used : ℕ) → used < 1702 → is_in list used ≡ false → data_of_used list used < 1536
  pub forth : (used : ℕ) → used < 1702 → is_in list used ≡ false → used_of_data list (data_of_used list used) ≡ used
  -- A larger data number is on a larger used number.
  pub rising : (d next : ℕ) → d < next → next < 1536 → used_of_data list d < used_of_data list next
