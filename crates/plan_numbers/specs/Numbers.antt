-- A plan's eight places as a row of 32 numbers, and such a row as a plan.
use Rattle.std.specs.Prelude.{List, ℕ, ◌+◌, ◌*◌, get_or}
use Rattle.base.specs.Tabulate.{tabulate}
use Rattle.zone.specs.declared.Zone.{Zone}
use Rattle.plan.specs.declared.Plan.{Plan}
use Rattle.zone.specs.Zone.{values_of}
use Rattle.plan.specs.Plan.{each}

-- A place of a plan is four numbers: mode, cell, slots and mask.
abbrev pub numbers_of : (zones : List Zone) → List ℕ
numbers_of zones = each values_of zones

-- The place of a plan that four of the numbers are, and the eight places that all 32 are.
abbrev pub place_in : (numbers : List ℕ) (place : ℕ) → Zone
place_in numbers place =
    record {
      mode = get_or numbers (4 * place) 0;
      cell = get_or numbers (4 * place + 1) 0;
      slots = get_or numbers (4 * place + 2) 0;
      mask = get_or numbers (4 * place + 3) 0;
    }

unfoldable pub places_in : (numbers : List ℕ) → List Zone
places_in numbers = tabulate 8 (place_in numbers)

abbrev pub plan_in : (count size : ℕ) (numbers : List ℕ) → Plan
plan_in count size numbers = record { count = count; size = size; zones = places_in numbers }
