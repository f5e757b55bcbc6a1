-- How the numbers of the points on a row are found fast. No reader needs this to know what the calls do.
use Rattle.std.specs.Prelude.{◌≡◌, true, List, ℕ, ◌+◌, ◌*◌, ◌<◌, length}
use Rattle.base.specs.Steps.{entry}
use Rattle.base.specs.Model.{Starts}
use Rattle.pusc_ul.specs.Tile.{tile_subchannel}
use Rattle.modes.specs.Setup.{Setup}
use Rattle.modes.specs.Mode.{by_mode, width}
use Rattle.formulas.specs.Formula.{address_of}
use Rattle.mask.specs.Mask.{is_used_lit, lit_rank}
use Rattle.runs.specs.Model.{run_step, run_count, runs_of, run_place, run_points}
use Rattle.pusc_dl_points.specs.Model as pusc-dl
use Rattle.ofusc_rows.specs.Model as ofusc
use Rattle.amc.specs.Map as amc-map

-- The reverse: the number of the point on a used number of symbol y, among the points of the lit subchannels.
unfoldable pub number_at : (setup : Setup) (mask y used : ℕ) → ℕ
number_at setup mask y used = let a = address_of setup y used in lit_rank setup mask a.subchannel * 48 + a.index

-- the number of point j of run i of symbol y
abbrev pub run_number : (setup : Setup) (mask y i j : ℕ) → ℕ
run_number setup mask y i j = number_at setup mask y (i * run_step setup + run_place (runs_of setup y) j)

-- The numbers of a row's points in one table: how far apart those of two runs in a row are, and those of two points of a run. In PUSC uplink the first points of all tiles come first, in PUSC downlink and over bins the points of the first run.
unfoldable pub run_stride : (setup : Setup) → ℕ
run_stride setup = by_mode setup.mode 12 1 8 8 0 0

unfoldable pub point_stride : (setup : Setup) → ℕ
point_stride setup = by_mode setup.mode 1 420 1 1 0 0

-- The table has the numbers of all points on the lit runs among the first n of a row.
abbrev pub NumbersBelow : (setup : Setup) (mask y n : ℕ) (numbers : List ℕ) → Type 0
NumbersBelow setup mask y n numbers =
    (i j : ℕ) → i < n → j < run_points (runs_of setup y) → is_used_lit setup mask (i * run_step setup) ≡ true
    → entry numbers (i * run_stride setup + j * point_stride setup) ≡ run_number setup mask y i j

abbrev pub RowNumbers : (setup : Setup) (mask y : ℕ) (numbers : List ℕ) → Type 0
RowNumbers setup mask y numbers = NumbersBelow setup mask y (run_count setup) numbers

-- a run of 12 put into such a table from a place on: what was before it stays
pub record RunPut (before own : List ℕ) (from : ℕ) (after : List ℕ) : Type 0 where
  pub long : length after ≡ length before
  pub kept : (k : ℕ) → k < from → entry after k ≡ entry before k
  pub put : (j : ℕ) → j < 12 → entry after (from + j) ≡ entry own j

-- What setup and mask fix for all runs, in two tables: of the clusters, or of the first seventy tiles, in PUSC; and of places, in PUSC downlink and over bins.
unfoldable pub run_entries : (setup : Setup) → ℕ
run_entries setup = by_mode setup.mode 120 70 0 0 0 0

unfoldable pub run_entry : (setup : Setup) (mask i : ℕ) → ℕ
run_entry setup mask i = by_mode setup.mode (pusc-dl.cluster_entry setup.cell mask i) (tile_subchannel setup.cell i) 0 0 0 0

abbrev pub RunTable : (setup : Setup) (mask : ℕ) (table : List ℕ) → Type 0
RunTable setup mask table = Starts (run_entries setup) (run_entry setup mask) table

unfoldable pub place_entries : (setup : Setup) → ℕ
place_entries setup = by_mode setup.mode 48 0 48 48 0 0

unfoldable pub place_entry : (setup : Setup) (k : ℕ) → ℕ
place_entry setup k =
    by_mode setup.mode
    (pusc-dl.inverse_entry setup.cell k)
    0
    (ofusc.cell_number (width setup) setup.cell k)
    (amc-map.index_of setup.cell k)
    0
    0

abbrev pub PlaceTable : (setup : Setup) (table : List ℕ) → Type 0
PlaceTable setup table = Starts (place_entries setup) (place_entry setup) table
