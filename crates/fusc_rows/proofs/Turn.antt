-- The turns of a subchannel: one data number in each 32, which are those of its points shifted round.
use Rattle.base.proofs.Prelude.{◌≡◌, ap, List, ℕ, ◌+◌, ◌*◌, ◌%◌, ◌<◌, ◌≤◌, arith}
use borrow.Author.Count.{below_none}
use Rattle.carriers.specs.Band.{fusc_band, carrier_of}
use Rattle.pilot_list.specs.List.{used_of_data}
use Rattle.fusc.specs.Map.{data_number, spot_of}
use Rattle.fusc.specs.Model.{turn_number}
use Rattle.fusc_rows.specs.Model.{Passed}
use Rattle.fusc_rows.proofs.Columns.{passed_on}

pub turn_range : (cell s n : ℕ) → (n * 32 ≤ turn_number cell s n) × (turn_number cell s n < n * 32 + 32)
unfolding turn_number
turn_range cell s n = (omega arith, omega arith)

-- index m has turn (m+13s) mod 48
pub turn_of : (pilots : List ℕ) (cell s m : ℕ)
    → carrier_of fusc_band (used_of_data pilots (turn_number cell s ((m + 13 * s % 48) % 48))) ≡ carrier_of fusc_band (spot_of pilots cell s m).used
unfolding spot_of data_number turn_number
turn_of pilots cell s m = ap (λ (n : ℕ). carrier_of fusc_band (used_of_data pilots (turn_number cell s n))) (omega arith)

-- the pilots that a turn's data number passes are passed by the next
pub turns_none : (pilots : List ℕ) → Passed pilots 0 0
turns_none pilots = record { within = omega arith; each = below_none _ }

module _ (pilots : List ℕ) (cell s n d j : ℕ) (e : d ≡ turn_number cell s n) where
  pub turn_in : Passed pilots (n * 32) j → Passed pilots d j
  turn_in p = passed_on pilots (n * 32) j p d (omega (arith, turn_range cell s n))

  pub turn_on : Passed pilots d j → Passed pilots ((n + 1) * 32) j
  turn_on p = passed_on pilots d j p ((n + 1) * 32) (omega (arith, turn_range cell s n))

  pub turn_lt : n < 48 → d < 1536
  turn_lt h = omega (arith, turn_range cell s n)
