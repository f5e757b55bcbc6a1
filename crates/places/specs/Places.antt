-- Where all points of a subchannel stand in a slot's grid, as one row.
use Rattle.std.specs.Prelude.{List, ℕ, Result, Ok, Err}
use Rattle.base.specs.Answer.{Answer, accepted, refused, ask}
use Rattle.base.specs.Tabulate.{tabulate}
use Rattle.modes.specs.Setup.{Setup}
use Rattle.modes.specs.Question.{ask_setup, is_slot, is_subchannel, is_lent}
use Rattle.grid.specs.Grid.{stands_at}
use Rattle.refusal.specs.declared.Refusal.{Refusal}
use Rattle.refusal.specs.Refusal.{number_of}

-- The questions of `place` but that about the index: 1, 2, 3, 4, 5, 20.
abbrev pub ask_places : {A : Type 0} → (setup : Setup) (slot subchannel : ℕ) (rest : Answer A) → Answer A
ask_places setup slot subchannel rest =
    ask_setup setup
    (ask (is_slot slot) 4
    (ask (is_subchannel setup subchannel) 5
    (ask (is_lent setup) 20 rest)))

-- The answer of a call for a row of places: the first refusal, or 0, and the row.
pub record PlaceRow : Type 0 where
  pub refusal : ℕ
  pub places : List ℕ

-- Of each index the point's place in the grid; with a refusal all are 0.
abbrev pub place_row : (place : ℕ → ℕ) (answer : Answer (Unit {0})) → PlaceRow
place_row place (accepted tt) = record { refusal = 0; places = tabulate 48 place }
place_row place (refused number) = record { refusal = number; places = tabulate 48 (λ index. 0) }

-- Document 01, "Grids": symbol after symbol, each by rising carrier, a point a carrier. A point is placed by `spot_of`, as `place` has it; where that stands in the grid is `stands_at`, as `empty` has it.
unfoldable pub places_of : (setup : Setup) (slot subchannel : ℕ) → PlaceRow
places_of setup slot subchannel = place_row (stands_at setup slot subchannel) (ask_places setup slot subchannel (accepted tt))

-- What an answer of `row` says: the places, or document 01's number.
abbrev pub given : (answer : Result (List ℕ) Refusal) → PlaceRow
given (Ok places) = record { refusal = 0; places = places }
given (Err e) = record { refusal = number_of e; places = tabulate 48 (λ index. 0) }
