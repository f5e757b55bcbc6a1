-- One run dropped: what the copy asks, and what it comes to.
use Rattle.base.proofs.{Prelude.{◌≡◌, ap, ap₂, ◌∙◌, true, List, ℕ, ◌+◌, ◌-◌, ◌*◌, ◌<◌, ◌≤◌, arith, length}, Tabulate.entry_of}
use mir.{Syntax.w64, Val.Fits}
use lib.Ieee.{Float}
use Rattle.base.specs.{Steps.entry, Tabulate.tabulate}
use Rattle.carriers.specs.Band.{carrier_of}
use Rattle.modes.specs.{Setup.Setup, Mode.{symbols, band}, Model.{Unlent, Valid}}
use Rattle.mask.specs.Mask.{is_used_lit, lit_subchannels}
use Rattle.points.specs.{Points.point_at, Model.puts}
use Rattle.points.proofs.Points.{puts_as}
use Rattle.copies.specs.Model.{RunWithin}
use Rattle.runs.specs.{declared.Runs.Runs, Model.{run_step, run_count, runs_of, run_place, run_points, points_within}}
use Rattle.point_numbers.specs.Model.{run_number, run_stride, point_stride, RowNumbers}
use Rattle.runs.proofs.Law.{run_law, within_place, within_few}
use Rattle.point_numbers.proofs.Filled.{in_table, from_below}
use Rattle.lengths.specs.Length.{grid_points}
use Rattle.lengths.proofs.Refusal.{grid_few}
use Rattle.grid.specs.Row.{column_position, used_position}
use Rattle.grid.proofs.Slot.{used_position_lt}
use Rattle.run_walk.specs.Model.{Took, run_start}
use Rattle.run_walk.proofs.Taken.{run_used, point_lt, stands_below, lit_run}

-- a run starts on a used number, in the grid
module _ (setup : Setup) (v : Valid setup) (its : Unlent setup) (row i : ℕ) (hr : row < symbols setup) (hi : i < run_count setup) where
  pub start_used : i * run_step setup < (band setup).used
  start_used = omega (arith, run_used setup v 0 0 its row i hr hi 0 (run_law its 0).step_pos)

  pub start_small : run_start setup row i < 65536
  start_small = omega (arith, grid_few v.ranged, used_position_lt setup v.ranged row (i * run_step setup) start_used hr)

-- where a run's numbers start is small
pub from_small : {setup : Setup} → Unlent setup → (i : ℕ) → i < run_count setup → (run : ℕ) → run ≡ run_stride setup → Fits w64 (i * run)
from_small its i h run e = rw e (omega (arith, from_below its i h))

-- what is worked out is where it starts
pub start_is : (setup : Setup) (row i first step k : ℕ) → first ≡ row * setup.size → step ≡ run_step setup → k ≡ carrier_of (band setup) (i * step) → first + k ≡ run_start setup row i
unfolding used_position column_position
start_is setup row i first step k e q f = rw (e, f, q)

module _ (setup : Setup) (v : Valid setup) (its : Unlent setup) (mask slot row i : ℕ) (hr : row < symbols setup) (hi : i < run_count setup) (grid points : List Float) (lit : is_used_lit setup mask (i * run_step setup) ≡ true)
    (start carriers : ℕ) (es : start ≡ run_start setup row i) (shape : Runs) (eb : shape ≡ runs_of setup (slot * symbols setup + row))
    (places : List ℕ) (ep : places ≡ tabulate 12 (run_place shape)) (run point : ℕ) (er : run ≡ run_stride setup) (et : point ≡ point_stride setup)
    (numbers : List ℕ) (en : RowNumbers setup mask (slot * symbols setup + row) numbers) (n : ℕ) (ek : n ≡ points_within shape (carriers - start)) where
  abbrev y : ℕ
  y = slot * symbols setup + row

  abbrev b : Runs
  b = runs_of setup y

  n_is : n ≡ points_within b (carriers - run_start setup row i)
  n_is = ek ∙ ap₂ (λ (z : Runs) (x : ℕ). points_within z (carriers - x)) eb es

  few_points : n ≤ 12
  few_points = omega (arith, n_is, within_few b (carriers - run_start setup row i), (run_law its y).points_few)

  point_of : (j : ℕ) → j < n → j < run_points b
  point_of j h = (within_place b j (carriers - run_start setup row i) (rw n_is at h)).0

  place-at : (j : ℕ) → j < n → start + entry places j ≡ run_start setup row i + run_place b j
  place-at j h = ap₂ (λ (a b : ℕ). a + b) es (entry_of places 12 (run_place shape) ep j (omega (arith, few_points)) ∙ ap (λ (z : Runs). run_place z j) eb)

  number_at : (j : ℕ) → j < n → entry numbers (i * run + j * point) ≡ run_number setup mask y i j
  number_at j h = rw (er, et) (en i j hi (point_of j h) lit)

  pub run_asks : (floats long : ℕ) → floats ≡ 2 * grid_points setup → long ≡ 96 * lit_subchannels setup mask
      → (n ≤ 12) × (start < 65536) × RunWithin numbers (i * run) point places start n floats long
  run_asks floats long ef el = (
    few_points,
    rw es (start_small setup v its row i hr hi),
    λ j h. (
      rw (er, et) (in_table its y i j hi (point_of j h)),
      omega (arith, place-at j h, stands_below setup v mask slot its row i hr hi lit j (point_of j h)),
      omega (arith, number_at j h, point_lt setup v mask slot its row i hr hi lit j (point_of j h)),
    ),
  )

  pub run_dropped : length points ≡ 96 * lit_subchannels setup mask → (points' : List Float)
      → points' ≡ puts (λ j. entry numbers (i * run + j * point)) (λ j. point_at grid (start + entry places j)) n points
      → Took setup mask slot carriers grid (run_start setup row i) (run_start setup row (i + 1)) points points'
  run_dropped long points' e =
      rw
      (e ∙ puts_as _ (run_number setup mask y i) _ (λ j. point_at grid (run_start setup row i + run_place b j)) n points number_at (λ j h. ap (point_at grid) (place-at j h))
      ∙ ap (λ (m : ℕ). puts (run_number setup mask y i) (λ j. point_at grid (run_start setup row i + run_place b j)) m points) n_is)
      (lit_run setup v mask slot its row i hr hi lit carriers grid points long)
