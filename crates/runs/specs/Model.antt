-- How a symbol's pilots and the places of the points on a run of its carriers are found fast. No reader needs this to know what the calls do.
use Rattle.std.specs.Prelude.{◌≡◌, List, ℕ, ◌*◌, ◌%◌, ◌<◌, eqb, ltb}
use Rattle.base.specs.Choice.{pick}
use Rattle.base.specs.Steps.{entry, skip, unskip}
use Rattle.base.specs.Tabulate.{tabulate}
use Rattle.carriers.specs.Bin.{bin_pilot_place}
use Rattle.clusters.specs.Cluster.{first_pilot, second_pilot}
use Rattle.pusc_dl_lit.specs.Model.{cluster_lit}
use Rattle.modes.specs.Setup.{Setup}
use Rattle.modes.specs.Mode.{by_mode, width}
use Rattle.runs.specs.declared.Runs.{Runs}

-- Which runs are lit, 1 each: a table of the clusters in PUSC downlink. In the other modes all are, and the table is not read.
abbrev pub LitRuns : (setup : Setup) (mask : ℕ) (lit : List ℕ) → Type 0
LitRuns setup mask lit = setup.mode ≡ 0 → lit ≡ tabulate 120 (cluster_lit setup.cell mask)

-- a run by its number: PUSC downlink has 120
abbrev pub IsRun : (setup : Setup) (i : ℕ) → Type 0
IsRun setup i = setup.mode ≡ 0 → i < 120

unfoldable pub run_lit : (setup : Setup) (lit : List ℕ) (i : ℕ) → ℕ
run_lit setup lit i = pick (eqb setup.mode 0) (entry lit i) 1

-- A symbol's used numbers as runs: clusters, tiles, bins. How many used numbers a run has, and how many runs there are.
unfoldable pub run_step : (setup : Setup) → ℕ
run_step setup = by_mode setup.mode 14 4 9 9 1 1

unfoldable pub run_count : (setup : Setup) → ℕ
run_count setup = by_mode setup.mode 120 420 (6 * width setup) (6 * width setup) 0 0

-- The places of a run's pilots in symbol y. One that is not there stands past the run's end: both in the middle symbol of a tile, the second in a bin. Where there are runs, the first stands before the second.
abbrev pub cluster_runs : (y : ℕ) → Runs
cluster_runs y = record { first = first_pilot y; second = second_pilot y; step = 14; count = 120 }

abbrev pub tile_runs : (y : ℕ) → Runs
tile_runs y = record { first = pick (eqb (y % 3) 1) 4 0; second = pick (eqb (y % 3) 1) 5 3; step = 4; count = 420 }

abbrev pub bin_runs : (n y : ℕ) → Runs
bin_runs n y = record { first = bin_pilot_place y; second = 9; step = 9; count = 6 * n }

unfoldable pub run_first : (setup : Setup) (y : ℕ) → ℕ
run_first setup y = by_mode setup.mode (first_pilot y) (tile_runs y).first (bin_pilot_place y) (bin_pilot_place y) 0 0

unfoldable pub run_second : (setup : Setup) (y : ℕ) → ℕ
run_second setup y = by_mode setup.mode (second_pilot y) (tile_runs y).second 9 9 0 0

abbrev pub runs_of : (setup : Setup) (y : ℕ) → Runs
runs_of setup y = record { first = run_first setup y; second = run_second setup y; step = run_step setup; count = run_count setup }

-- the place of a run's point j, and how many of its points lie below a place
unfoldable pub run_place : (b : Runs) (j : ℕ) → ℕ
run_place b j = skip b.second (skip b.first j)

unfoldable pub points_below : (b : Runs) (place : ℕ) → ℕ
points_below b place = unskip b.first (unskip b.second place)

-- all of them, and those below so many places that may be more than the run has
abbrev pub run_points : (b : Runs) → ℕ
run_points b = points_below b b.step

unfoldable pub points_within : (b : Runs) (room : ℕ) → ℕ
points_within b room = pick (ltb room b.step) (points_below b room) (run_points b)
