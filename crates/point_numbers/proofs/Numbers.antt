-- The numbers of a run's points, from the tables and the runs of its mode.
use Rattle.base.proofs.{Prelude.{◌≡◌, sym, ap, ap₂, ◌∙◌, true, List, ℕ, ◌+◌, ◌*◌, ◌/◌, ◌%◌, ◌<◌, arith, digits_mod, eqb, ne_eqb}, Test.cases}
use Rattle.base.proofs.{Tabulate.starts_as, Rank.rank_all, LeaveOut.{skip_below, skip_above, skip_lt}}
use Rattle.base.specs.{Steps.{skip, entry}, Model.Starts}
use Rattle.carriers.specs.{declared.Address.Address, Bin.{bin_pilot_place, used_of_data, data_of_used}, Model.address_number}
use Rattle.carriers.proofs.Bin.{data_used}
use Rattle.ofusc.proofs.Sequence.{size}
use Rattle.amc.specs.{declared.Shape.Shape, Model.IsShape}
use Rattle.modes.specs.{Setup.{Setup, setup_lent}, Mode.{shape_of, width, symbols, symbols_of}}
use Rattle.formulas.specs.Formula.{address_of}
use Rattle.modes.specs.Model.{OverBins, IsAmc, Unlent, pusc-dl, pusc-ul, ofusc, amc, own}
use Rattle.modes.proofs.{Choice.{amc_shape, at_0, at_1, at_2, at_amc, at_bins, by-mode}, ByMode.{shape_symbols, in_pusc_ul, bin_width}}
use Rattle.mask.specs.Mask.{is_lit_of, is_lit, is_used_lit_of, is_used_lit}
use Rattle.clusters.specs.Cluster.{first_pilot, second_pilot, cluster_place}
use Rattle.pusc_dl_lit.specs.Lit.{has_group}
use Rattle.pusc_dl.specs.Map.{used_group}
use Rattle.runs.specs.{declared.Runs.Runs, Model.{run_step, run_count, cluster_runs, tile_runs, bin_runs, run_first, run_second, runs_of, run_place, run_points}}
use Rattle.point_numbers.specs.Model.{number_at, run_number, run_stride, point_stride, RowNumbers, run_entries, run_entry, RunTable, place_entries}
use Rattle.point_numbers.specs.Model.{place_entry, PlaceTable}
use Rattle.runs.proofs.Law.{bin_apart, runs_bins, two_points, one_point, all_points, cluster_apart}
use Rattle.pusc_ul.specs.Tile.{tile_subchannel}
use Rattle.pusc_dl_points.specs.Model as dl
use Rattle.pusc_ul_rows.specs.Model as ul
use Rattle.pusc_ul.specs.Map as ul-map
use Rattle.ofusc_rows.specs.Model as spread
use Rattle.ofusc.specs.Map as spread-map
use Rattle.amc.specs.Map as adjacent

-- ---- the tables are those of the mode

-- the table of a mode is the setup's: so many entries, and the same
pub record TableAs (n n' : ℕ) (f f' : ℕ → ℕ) : Type 0 where
  pub length_is : n ≡ n'
  pub entry_is : (i : ℕ) → f i ≡ f' i

module _ {n n' : ℕ} {f f' : ℕ → ℕ} (table : List ℕ) (a : TableAs n n' f f') where
  pub to_table : Starts n f table → Starts n' f' table
  to_table s = starts_as table s a.length_is a.entry_is

  pub from_table : Starts n' f' table → Starts n f table
  from_table s = starts_as table s (sym a.length_is) (λ i. sym (a.entry_is i))

module _ (c : Setup) where
  pub clusters_as : (mask : ℕ) → c.mode ≡ 0 → TableAs 120 (run_entries c) (dl.cluster_entry c.cell mask) (run_entry c mask)
  unfolding run_entries run_entry
  clusters_as mask q = record { length_is = by-mode (at_0 q); entry_is = λ i. by-mode (at_0 q) }

  pub tiles_as : (mask : ℕ) → c.mode ≡ 1 → TableAs 70 (run_entries c) (tile_subchannel c.cell) (run_entry c mask)
  unfolding run_entries run_entry
  tiles_as mask q = record { length_is = by-mode (at_1 q); entry_is = λ i. by-mode (at_1 q) }

  pub inverses_as : c.mode ≡ 0 → TableAs 48 (place_entries c) (dl.inverse_entry c.cell) (place_entry c)
  unfolding place_entries place_entry
  inverses_as q = record { length_is = by-mode (at_0 q); entry_is = λ i. by-mode (at_0 q) }

  pub groups_as : c.mode ≡ 2 → TableAs 48 (place_entries c) (spread.cell_number (width c) c.cell) (place_entry c)
  unfolding place_entries place_entry
  groups_as q = record { length_is = by-mode (at_2 q); entry_is = λ i. by-mode (at_2 q) }

  pub indices_as : IsAmc c.mode → TableAs 48 (place_entries c) (adjacent.index_of c.cell) (place_entry c)
  unfolding place_entries place_entry
  indices_as q = record { length_is = by-mode (at_amc q); entry_is = λ i. by-mode (at_amc q) }

-- the others have none
module _ (c : Setup) (table : List ℕ) where
  pub no_runs : (mask : ℕ) → 0 ≡ run_entries c → RunTable c mask table
  no_runs mask none k k_lt = absurd (omega arith)

  pub no_places : 0 ≡ place_entries c → PlaceTable c table
  no_places none k k_lt = absurd (omega arith)

-- ---- where all is lit, a subchannel's rank is its number

all_number : (c : Setup) (mask y u : ℕ) → (c.mode ≡ 0 → ⊥) → (a : Address) → address_of c y u ≡ a → address_number a ≡ number_at c mask y u
unfolding number_at is_lit_of
all_number c mask y u ne a e =
    sym (rw e (ap (λ (r : ℕ). r * 48 + a.index) (rank_all (is_lit c mask) a.subchannel (λ s h. rw (ne_eqb c.mode 0 ne)))))

-- ---- each mode's

cluster-place : (slot row j : ℕ) → skip (second_pilot (slot * 2 + row)) (skip (first_pilot (slot * 2 + row)) j) ≡ cluster_place row j
unfolding cluster_place first_pilot second_pilot
cluster-place slot row j = let e : (slot * 2 + row) % 2 ≡ row % 2 = omega arith in rw e

module _ (mask slot row i : ℕ) (r : List ℕ) where
  pub numbers_0 : {c : Setup} → Unlent c → c.mode ≡ 0 → row < symbols c → (has_group mask (used_group c.cell (i * 14)) ≡ true → Starts 12 (dl.cluster_number c.cell mask row i) r)
      → is_used_lit c mask (i * run_step c) ≡ true → Starts (run_points (runs_of c (slot * symbols c + row))) (run_number c mask (slot * symbols c + row) i) r
  unfolding symbols_of run_first run_second run_step run_count run_place number_at is_lit_of is_used_lit_of address_of dl.cluster_number
  numbers_0 (pusc-dl {cell = cell} h) q hr s lit =
      λ j hj.
      let y = slot * 2 + row in
      let a = cluster_apart y in
      let offset : y % 2 ≡ row = omega arith in
      s lit j (omega (arith, two_points (cluster_runs y) a.0 a.1))
      ∙ sym (rw (offset, cluster-place slot row j))
  numbers_0 (pusc-ul h) q hr s lit = absurd (omega arith)
  numbers_0 (ofusc w h) q hr s lit = absurd (omega arith)
  numbers_0 (amc k w h) q hr s lit = absurd (omega arith)

-- a tile's points, in the middle symbol and in the others
module _ (y : ℕ) where
  tile_count : (row : ℕ) → y % 3 ≡ row → run_points (tile_runs y) ≡ ul.tile_points row
  unfolding ul.tile_points
  tile_count row e =
      rw e
      (cases (eqb row 1)
      (λ t. rw t (all_points (record { first = 4; second = 5; step = 4; count = 420 }) (omega arith) (omega arith)))
      (λ t. rw t (two_points (record { first = 0; second = 3; step = 4; count = 420 }) (omega arith) (omega arith))))

  tile-place : (row j : ℕ) → y % 3 ≡ row → j < ul.tile_points row → ul.tile_place row j ≡ run_place (tile_runs y) j
  unfolding ul.tile_place ul.tile_points run_place
  tile-place row j e h =
      rw e
      (cases (eqb row 1)
      (λ t. let l : j < 4 = rw t at h in rw t (sym (ap (skip 5) (skip_below 4 j l) ∙ skip_below 5 j (omega arith))))
      (λ t. let l : j < 2 = rw t at h in rw t (sym (ap (skip 3) (skip_above 0 j (omega arith)) ∙ skip_below 3 (j + 1) (omega arith)))))

-- a bin's
module _ (n y i j : ℕ) (h : j < 8) where
  bin_place : run_place (bin_runs n y) j ≡ skip (bin_pilot_place y) j
  unfolding run_place
  bin_place = skip_below 9 (skip (bin_pilot_place y) j) (skip_lt (bin_pilot_place y) j {n = 8} h)

  bin_data : data_of_used y (i * 9 + run_place (bin_runs n y) j) ≡ i * 8 + j
  unfolding used_of_data
  bin_data =
      let bin : (i * 8 + j) / 8 ≡ i = omega arith in
      let place : (i * 8 + j) % 8 ≡ j = omega arith in
      let used : used_of_data y (i * 8 + j) ≡ i * 9 + run_place (bin_runs n y) j = rw (bin, place, bin_place) in
      ap (data_of_used y) (sym used) ∙ data_used y (i * 8 + j)

-- those of the tiles of a row, the first points of all tiles first
module _ (mask slot row : ℕ) (r : List ℕ) where
  pub numbers_1 : {c : Setup} → Unlent c → c.mode ≡ 1 → row < symbols c
      → ((p j : ℕ) → p < 420 → j < ul.tile_points row → entry r (j * 420 + p) ≡ address_number (ul-map.address_of c.cell row (p * 4 + ul.tile_place row j)))
      → RowNumbers c mask (slot * symbols c + row) r
  unfolding symbols_of run_first run_second run_step run_count run_stride point_stride address_of
  numbers_1 (pusc-dl h) q hr s = absurd (omega arith)
  numbers_1 (pusc-ul {cell = cell} {pilots = lent} h) q hr s =
      λ i j hi hj lit.
      let y = slot * 3 + row in
      let offset : y % 3 ≡ row = omega arith in
      let l : j < ul.tile_points row = omega (arith, tile_count y row offset) in
      let at : i * 1 + j * 420 ≡ j * 420 + i = omega arith in
      ap (entry r) at ∙ s i j hi l
      ∙ ap (λ (p : ℕ). address_number (ul-map.address_of cell row (i * 4 + p))) (tile-place y row j offset l)
      ∙ all_number (setup_lent 1 2048 cell lent) mask y (i * 4 + run_place (tile_runs y) j) (λ z. omega arith) _ (ap (λ (o : ℕ). ul-map.address_of cell o (i * 4 + run_place (tile_runs y) j)) offset)
  numbers_1 (ofusc w h) q hr s = absurd (omega arith)
  numbers_1 (amc k w h) q hr s = absurd (omega arith)

module _ (mask slot row i : ℕ) (r : List ℕ) where
  -- over bins: eight points, by their data numbers
  bin_numbers : (c : Setup) (n y : ℕ) (f : ℕ → Address) → runs_of c y ≡ bin_runs n y → (c.mode ≡ 0 → ⊥)
      → ((j : ℕ) → j < 8 → address_of c y (i * 9 + run_place (bin_runs n y) j) ≡ f (i * 8 + j))
      → Starts 8 (λ j. address_number (f (i * 8 + j))) r → Starts (run_points (runs_of c y)) (run_number c mask y i) r
  bin_numbers c n y f e ne same s j hj =
      let l : j < 8 = omega (arith, ap run_points e, one_point (bin_runs n y) (bin_apart n y) (omega arith)) in
      s j l
      ∙ all_number c mask y (i * 9 + run_place (bin_runs n y) j) ne (f (i * 8 + j)) (same j l)
      ∙ sym (ap (λ (b : Runs). number_at c mask y (i * b.step + run_place b j)) e)

  pub numbers_2 : {c : Setup} → Unlent c → c.mode ≡ 2 → row < symbols c → (n : ℕ) → n ≡ width c → Starts 8 (λ j. address_number (spread-map.address_of n c.cell (i * 8 + j))) r
      → Starts (run_points (runs_of c (slot * symbols c + row))) (run_number c mask (slot * symbols c + row) i) r
  unfolding address_of
  numbers_2 {c} v q hr n e s =
      let y = slot * symbols c + row in
      bin_numbers c (width c) y (spread-map.address_of (width c) c.cell)
      (sym (runs_bins c y (omega arith))) (λ z. omega arith)
      (λ j l. sym (by-mode (at_2 q)) ∙ ap (spread-map.address_of (width c) c.cell) (bin_data (width c) y i j l))
      (rw e at s)

  pub numbers_amc : {c : Setup} → Unlent c → IsAmc c.mode → row < symbols c → (shape : Shape) → shape ≡ shape_of c.mode → Starts 8 (λ j. address_number (adjacent.address_of shape c.cell row (i * 8 + j))) r
      → Starts (run_points (runs_of c (slot * symbols c + row))) (run_number c mask (slot * symbols c + row) i) r
  unfolding address_of
  numbers_amc {c} v q hr shape e s =
      let y = slot * symbols c + row in
      let offset : y % (shape_of c.mode).symbols ≡ row = rw (shape_symbols c q) (digits_mod slot hr) in
      bin_numbers c (width c) y (adjacent.address_of (shape_of c.mode) c.cell row)
      (sym (runs_bins c y (omega arith))) (λ z. omega arith)
      (λ j l. sym (by-mode (at_amc q)) ∙ ap₂ (adjacent.address_of (shape_of c.mode) c.cell) offset (bin_data (width c) y i j l))
      (rw e at s)

-- ---- what each mode's function asks

module _ {c : Setup} (v : Unlent c) (row i : ℕ) (hr : row < symbols c) (hi : i < run_count c) (mask : ℕ) (runs places : List ℕ) (tr : RunTable c mask runs) (tp : PlaceTable c places) where
  pub asks_0 : c.mode ≡ 0 → ((row < 2) × (i < 120)) × (Starts 120 (dl.cluster_entry c.cell mask) runs × Starts 48 (dl.inverse_entry c.cell) places)
  unfolding symbols_of run_count
  asks_0 q = ((rw q at hr, rw q at hi), (from_table runs (clusters_as c mask q) tr, from_table places (inverses_as c q) tp))

  bin_lt : OverBins c.mode → i < 6 * width c
  unfolding run_count
  bin_lt o = let count : 6 * width c ≡ run_count c = by-mode (at_bins o) in omega arith

  pub asks_2 : c.mode ≡ 2 → (n : ℕ) → n ≡ width c → (i < 6 * n) × Starts 48 (spread.cell_number n c.cell) places
  asks_2 q n e = rw e (bin_lt (omega arith), from_table places (groups_as c q) tp)

  pub asks_amc : IsAmc c.mode → (shape : Shape) → shape ≡ shape_of c.mode → (IsShape shape × (row < shape.symbols) × (i < 192)) × Starts 48 (adjacent.index_of c.cell) places
  asks_amc q shape e =
      let w = (size (bin_width (own v) (omega arith))).most in
      let l = bin_lt (omega arith) in
      (rw e (amc_shape c.mode q, rw (shape_symbols c q) hr, omega arith), from_table places (indices_as c q) tp)

pub asks_1 : {c : Setup} → Unlent c → (row : ℕ) → row < symbols c → (mask : ℕ) (runs : List ℕ) → RunTable c mask runs → c.mode ≡ 1
    → ((c.cell < 70) × (row < 3)) × Starts 70 (tile_subchannel c.cell) runs
unfolding symbols_of
asks_1 {c} v row hr mask runs tr q = (((in_pusc_ul (own v) q).cell_lt, rw q at hr), from_table runs (tiles_as c mask q) tr)
