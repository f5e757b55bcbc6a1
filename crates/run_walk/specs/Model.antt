-- What the walk of empty has taken: by the places of the grid, in whatever way a row's points are found. No reader needs this to know what the calls do.
use Rattle.std.specs.Prelude.{◌≡◌, List, ℕ, ◌*◌, ◌/◌, ◌%◌, ◌<◌, ◌≤◌, length, Float}
use Rattle.modes.specs.Setup.{Setup}
use Rattle.mask.specs.Mask.{lit_subchannels, of_lit_rank}
use Rattle.base.specs.Tabulate.{tabulate}
use Rattle.runs.specs.Model.{run_step, runs_of, run_place, run_points}
use Rattle.point_numbers.specs.Model.{run_stride, point_stride}
use Rattle.points.specs.Points.{point_at}
use Rattle.grid.specs.Row.{used_position}
use Rattle.grid.specs.Grid.{stands_at}
use Rattle.run_walk.specs.declared.RowRuns.{RowRuns}

-- where point n of the lit subchannels' points stands in the grid
abbrev pub point_stands : (setup : Setup) (mask slot n : ℕ) → ℕ
point_stands setup mask slot n = stands_at setup slot (of_lit_rank setup mask (n / 48)) (n % 48)

-- The first q places of the grid are walked: of the points that stand there, those on the first `carriers` are taken, all others are as they were.
pub record TakenTo (setup : Setup) (mask slot carriers : ℕ) (grid old : List Float) (q : ℕ) (points : List Float) : Type 0 where
  pub taken : (n : ℕ) → n < 48 * lit_subchannels setup mask → point_stands setup mask slot n < q → point_stands setup mask slot n < carriers
      → point_at points n ≡ point_at grid (point_stands setup mask slot n)
  pub later : (n : ℕ) → n < 48 * lit_subchannels setup mask → q ≤ point_stands setup mask slot n → point_at points n ≡ point_at old n
  pub past : (n : ℕ) → n < 48 * lit_subchannels setup mask → carriers ≤ point_stands setup mask slot n → point_at points n ≡ point_at old n

-- The walk goes on from one place of the grid to another, whatever the points were at first. This is all that is asked of a row.
pub record Took (setup : Setup) (mask slot carriers : ℕ) (grid : List Float) (from to : ℕ) (before after : List Float) : Type 0 where
  pub long : length after ≡ length before
  pub on : (old : List Float) → TakenTo setup mask slot carriers grid old from before → TakenTo setup mask slot carriers grid old to after

-- where run i of a row starts
abbrev pub run_start : (setup : Setup) (row i : ℕ) → ℕ
run_start setup row i = used_position setup row (i * run_step setup)

-- the runs of a row, whose symbol is y, and what is found of them
pub record RunsOfRow (setup : Setup) (y : ℕ) (own : RowRuns) : Type 0 where
  pub shape_is : own.shape ≡ runs_of setup y
  pub all_is : own.all ≡ run_points own.shape
  pub places_are : own.places ≡ tabulate 12 (run_place own.shape)
  pub run_is : own.strides.run ≡ run_stride setup
  pub point_is : own.strides.point ≡ point_stride setup
