-- Empty. Document 01, "Grids"; document 02, wishes 5, 6 and 8.
use Rattle.std.specs.Prelude.{List, ℕ, ◌*◌, ◌/◌, ◌%◌, ltb, length, Float}
use Rattle.base.specs.Answer.{accepted}
use Rattle.base.specs.Choice.{pick}
use Rattle.modes.specs.Setup.{Setup}
use Rattle.mask.specs.Mask.{lit_subchannels, of_lit_rank}
use Rattle.points.specs.Points.{point_at, floats_of}
use Rattle.questions.specs.Question.{ask_empty}
use Rattle.grid.specs.Grid.{Outcome, outcome, stands_at}

-- Document 02, wish 5: emptying gives back the lit subchannels' points, rising, 96 floats each.
unfoldable pub emptied : (setup : Setup) (mask slot : ℕ) (grid : List Float) → List Float
emptied setup mask slot grid =
    floats_of (48 * lit_subchannels setup mask) (λ n. point_at grid (stands_at setup slot (of_lit_rank setup mask (n / 48)) (n % 48)))

-- Empty does the reverse and writes the points only. Questions 1, 2, 3, 17, 4, 20, 8, 9.
unfoldable pub empty_of : (setup : Setup) (mask slot : ℕ) (grid points : List Float) → Outcome
empty_of setup mask slot grid points =
    outcome
    (ask_empty setup mask slot (length points) (length grid) (accepted (emptied setup mask slot grid)))
    points

-- where in the grid point n of the lit subchannels' points stands
abbrev pub lit_stands_at : (setup : Setup) (mask slot n : ℕ) → ℕ
lit_stands_at setup mask slot n = stands_at setup slot (of_lit_rank setup mask (n / 48)) (n % 48)

-- Document 02, wish 6: a call beside empty empties only so many carriers from the grid's start (all, where the grid has fewer). It writes the points on these and no other float. The grid's places are counted, guards, DC and pilots too.
unfoldable pub emptied_first : (setup : Setup) (mask slot carriers : ℕ) (grid points : List Float) → List Float
emptied_first setup mask slot carriers grid points =
    floats_of (48 * lit_subchannels setup mask)
    (λ n. pick (ltb (lit_stands_at setup mask slot n) carriers) (point_at grid (lit_stands_at setup mask slot n)) (point_at points n))

-- The call that empties the first carriers has the fields of empty and a count, and puts the same questions: 1, 2, 3, 17, 4, 20, 8, 9, none about the count.
unfoldable pub empty_first_of : (setup : Setup) (mask slot carriers : ℕ) (grid points : List Float) → Outcome
empty_first_of setup mask slot carriers grid points =
    outcome
    (ask_empty setup mask slot (length points) (length grid) (accepted (emptied_first setup mask slot carriers grid points)))
    points
