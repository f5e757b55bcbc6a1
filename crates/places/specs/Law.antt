-- What is claimed of a row of places: THE LAW OF THE PLACES. Its proof is `place_law`.
use Rattle.std.specs.Prelude.{◌≡◌, List, ◌⊎◌, ℕ, ◌%◌, ◌<◌, length, Float}
use Rattle.base.specs.Answer.{refusal_of}
use Rattle.base.specs.Steps.{entry}
use Rattle.modes.specs.Setup.{Setup}
use Rattle.modes.specs.Mode.{symbols}
use Rattle.map.specs.Place.{place_of}
use Rattle.points.specs.Points.{point_at}
use Rattle.lengths.specs.Length.{grid_points}
use Rattle.grid.specs.Row.{column_position}
use Rattle.lay.specs.Lay.{lay_of}
use Rattle.grid.specs.Grid.{Leaves, PlacedIn}
use Rattle.places.specs.Places.{places_of}

pub record PlaceLaw (setup : Setup) (slot subchannel : ℕ) : Type 0 where
  -- A row has an entry for each index, whatever is asked.
  pub row_long : length (places_of setup slot subchannel).places ≡ 48
  -- Each entry is where `place` puts that index: the column of its carrier, in the symbol's row of the grid.
  pub is_placed : (index symbol column : ℕ) → PlacedIn setup slot subchannel index symbol column
      → entry (places_of setup slot subchannel).places index ≡ column_position setup (symbol % symbols setup) column
  -- Each entry of an accepted row lies in the grid.
  pub in_grid : (index : ℕ) → (places_of setup slot subchannel).refusal ≡ 0 → index < 48 → entry (places_of setup slot subchannel).places index < grid_points setup
  -- The row is refused where `place` is, with the same number.
  pub refused_alike : (index : ℕ) → index < 48 → (places_of setup slot subchannel).refusal ≡ refusal_of (place_of setup slot subchannel index)
  -- A row serves every slot that agrees with its own mod 3; and every slot at all in PUSC downlink, in FUSC (with the same list), and where a slot has three or six symbols.
  pub same_mod_3 : (other : ℕ) → slot < 512 → other < 512 → slot % 3 ≡ other % 3 → places_of setup slot subchannel ≡ places_of setup other subchannel
  pub same_always : (other : ℕ) → slot < 512 → other < 512 → (setup.mode ≡ 0) ⊎ ((setup.mode ≡ 7) ⊎ (symbols setup % 3 ≡ 0)) → places_of setup slot subchannel ≡ places_of setup other subchannel
  -- After a lay, the point of each index stands at its entry.
  pub laid_there : (mask : ℕ) (points grid next : List Float) → Leaves (lay_of setup mask slot subchannel points grid) next
      → (index : ℕ) → index < 48 → point_at next (entry (places_of setup slot subchannel).places index) ≡ point_at points index
