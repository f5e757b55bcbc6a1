-- A subchannel's row of carriers, from the table and the rows of its mode.
use Rattle.base.proofs.{Prelude.{◌≡◌, refl, sym, ap, ap₂, ◌∙◌, true, false, List, ℕ, ◌+◌, ◌*◌, ◌%◌, ◌<◌, ◌≤◌, digits_lt, lit<, eqb, arith}, Test.cases}
use Rattle.base.proofs.Tabulate.{entry_of, turned_row, turned_by, turned_below}
use Rattle.base.specs.{Steps.entry, Tabulate.tabulate, Model.{Starts, Below, Turned}}
use Rattle.carriers.specs.{declared.Spot.Spot, Band.{bin_band, fusc_band, carrier_of}, Bin.used_of_data, Law.DataSpot}
use Rattle.carriers.specs.Model.{spot_number, carrier_number, carrier_step}
use Rattle.ofusc.specs.Width.{Width, n4, n8, n16, n32}
use Rattle.ofusc.proofs.Sequence.{size, sum_lt, cell_term_lt}
use Rattle.ofusc_rows.proofs.Row.{number_in_group}
use Rattle.amc.specs.{declared.Shape.Shape, Model.IsShape}
use Rattle.amc_rows.specs.Model.{EvenWidth}
use Rattle.amc_rows.proofs.Row.{carrier-at}
use Rattle.pusc_ul_rows.proofs.Row.{number_on_place}
use Rattle.carriers.proofs.Row.{step_carrier}
use Rattle.modes.specs.{Setup.Setup, Mode.{by_mode, is_amc, shape_of, width, width_of, subchannels, symbols, symbols_of, band, band_of}}
use Rattle.formulas.specs.Formula.{is_pilot, spot_of}
use Rattle.modes.specs.Model.{IsAmc, pusc-dl, pusc-ul, ofusc, amc, Ranged, own, fusc, Valid}
use Rattle.rows.specs.Model.{shift_of, point_place}
use Rattle.modes.proofs.Choice.{amc_shape, at_0, at_1, at_2, at_amc, by-mode}
use Rattle.modes.proofs.{ByMode.{in_pusc_dl, in_pusc_ul, in_ofusc, in_amc, bin_width, amc_width, shape_symbols, few}, Lent.own_mode}
use Rattle.formulas.proofs.{Asks.amc_spot, Slot.slot_law}
use Rattle.pusc_ul_rows.specs.Model as pusc-ul
use Rattle.ofusc_rows.specs.Model as ofusc
use Rattle.amc_rows.specs.Model as amc
use Rattle.fusc.specs.Map as fusc-map
use Rattle.pusc_dl.specs.Map as pusc-dl-map
use Rattle.ofusc.specs.Map as ofusc-map
use Rattle.amc.specs.Map as amc-map

even_width : {n : ℕ} → Width n → EvenWidth n
even_width n4 = omega arith
even_width n8 = omega arith
even_width n16 = omega arith
even_width n32 = omega arith

-- what each mode's row asks, and its table
module _ {c : Setup} (v : Ranged c) (s : ℕ) (hs : s < subchannels c) where
  pub asks_0 : c.mode ≡ 0 → (c.cell < 32) × (s < 60)
  asks_0 e = let r = in_pusc_dl v e in (r.cell_lt, rw r.subchannels_are at hs)

  pub asks_1 : c.mode ≡ 1 → (c.cell < 70) × (s < 70)
  asks_1 e = let r = in_pusc_ul v e in (r.cell_lt, rw r.subchannels_are at hs)

  pub asks_2 : (n : ℕ) → n ≡ width c → c.mode ≡ 2 → Width n × (s < n) × (c.cell < n * n)
  asks_2 n q e = let r = in_ofusc v e in rw q (bin_width v (omega arith), rw r.subchannels_are at hs, r.cell_lt)

  pub asks_amc : IsAmc c.mode → (shape : Shape) → shape ≡ shape_of c.mode → (n : ℕ) → n ≡ width c
      → IsShape shape × EvenWidth n × (c.cell < 2352) × (s < n * shape.symbols)
  asks_amc q shape e n f = let r = in_amc v q in rw (e, f) (amc_shape c.mode q, even_width (amc_width v q), r.cell_lt, rw r.subchannels_are at hs)

-- the size is 64N
bin_size : {c : Setup} → Ranged c → IsAmc c.mode → c.size ≡ 64 * width c
unfolding width_of
bin_size (own (pusc-dl h)) q = absurd (omega arith)
bin_size (own (pusc-ul h)) q = absurd (omega arith)
bin_size (own (ofusc w h)) q = absurd (omega arith)
bin_size (own (amc {n = n} q' w h)) q = omega arith
bin_size (fusc h) q = absurd (omega arith)

module _ (c : Setup) (slot s : ℕ) where
  shift_none : (m : ℕ) → m < 48 → shift_of c s ≡ 0 → (m + shift_of c s) % 48 ≡ m
  shift_none m h e = omega arith

  pub row_0 : c.mode ≡ 0 → (row : List ℕ) → row ≡ tabulate 48 (λ m. spot_number (pusc-dl-map.spot_of c.cell s m))
      → Turned (shift_of c s) (λ m. spot_number (spot_of c slot s m)) row
  unfolding spot_of shift_of
  row_0 q row e =
      turned_row (shift_of c s) _ (λ m. spot_number (pusc-dl-map.spot_of c.cell s m)) row e
      (λ m h. ap (λ (k : ℕ). spot_number (pusc-dl-map.spot_of c.cell s k)) (shift_none m h (sym (by-mode (at_0 q)))) ∙ ap spot_number (by-mode (at_0 q)))

  pub spot_2 : c.mode ≡ 2 → (m : ℕ) → m < 48 → record { offset = 0; used = used_of_data slot (ofusc.group_number (width c) c.cell s ((m + shift_of c s) % 48)) } ≡ spot_of c slot s m
  unfolding spot_of shift_of symbols_of
  spot_2 q m h =
      let d = ofusc-map.data_number (width c) c.cell s m in
      ap (λ (by : ℕ). at slot (ofusc.group_number (width c) c.cell s ((m + by) % 48))) (sym (by-mode (at_2 q)))
      ∙ ap (at slot) (number_in_group (width c) c.cell s m)
      ∙ ap (λ (y : ℕ). at y d) (omega arith ∙ ap (λ (t : ℕ). slot * t + 0) (by-mode (at_2 q)))
      ∙ by-mode (at_2 q)
    where
      at : ℕ → ℕ → Spot
      at y d = record { offset = 0; used = used_of_data y d }

  -- AMC's row, the carriers of P's entries
  pub row_amc : Ranged c → IsAmc c.mode → (shape : Shape) → shape ≡ shape_of c.mode → (n : ℕ) → n ≡ width c
      → (row : List ℕ) → Starts 48 (amc.sequence_carrier shape n (slot * shape.symbols) c.cell s) row
      → Turned (shift_of c s) (point_place c slot s) row
  unfolding shift_of band_of amc.traffic_carrier amc-map.data_number
  row_amc v q shape e n f row starts m h =
      let first = slot * shape.symbols in
      let size_is : 64 * n ≡ c.size = ap (λ (x : ℕ). 64 * x) f ∙ sym (bin_size v q) in
      let band_is : bin_band n ≡ band c = ap bin_band f ∙ by-mode (at_amc q) in
      let spot_is = amc_spot c slot s m shape.symbols (ap (λ (t : Shape). t.symbols) e ∙ shape_symbols c q) (amc-map.data_number shape c.cell s m) _ refl q shape e refl in
      starts ((m + shift_of c s) % 48) (omega arith)
      ∙ ap (λ (by : ℕ). amc.sequence_carrier shape n first c.cell s ((m + by) % 48)) (sym (by-mode (at_amc q)))
      ∙ carrier-at shape n first c.cell s m
      ∙ (λ i. carrier_number (size_is i) (band_is i) (spot_is i))

-- a row of data numbers of optional FUSC: they are small, and their used numbers are the spots of a slot of one symbol
module _ {c : Setup} (v : Ranged c) (q : c.mode ≡ 2) (slot s : ℕ) (hs : s < subchannels c) (n : ℕ) (w : n ≡ width c) (numbers : List ℕ) (e : numbers ≡ tabulate 48 (ofusc.group_number n c.cell s)) where
  pub numbers_below : Below 48 2048 numbers
  unfolding ofusc.group_number
  numbers_below k h =
      let a = asks_2 v s hs n w q in
      let lt : ofusc.group_number n c.cell s k < 2048 =
      omega (arith, digits_lt h (sum_lt a.0 s (ofusc-map.cell_term n c.cell k) a.1 (cell_term_lt a.0 c.cell k)), (size a.0).most) in
      rw (entry_of numbers 48 _ e k h) lt

  spot_at : (m : ℕ) → m < 48 → used_of_data slot (ofusc.group_number n c.cell s ((m + shift_of c s) % 48)) ≡ spot_number (spot_of c slot s m)
  spot_at m h = rw w (omega (arith, ap spot_number (spot_2 c slot s q m h)))

  pub row_2 : (used : List ℕ) → used ≡ tabulate 48 (λ k. used_of_data slot (entry numbers k)) → Turned (shift_of c s) (λ m. spot_number (spot_of c slot s m)) used
  row_2 used f =
      turned_row (shift_of c s) (λ m. spot_number (spot_of c slot s m)) (λ k. used_of_data slot (entry numbers k)) used f
      (λ m h. ap (used_of_data slot) (entry_of numbers 48 _ e ((m + shift_of c s) % 48) (omega arith)) ∙ spot_at m h)

-- an accepted mode is listed
pub listed : {c : Setup} → Ranged c → true ≡ by_mode c.mode false false false false false true → ⊥
listed (own (pusc-dl h)) e = cc
listed (own (pusc-ul h)) e = cc
listed (own (ofusc w h)) e = cc
listed (own (amc q w h)) e = let z : true ≡ false = e ∙ sym (by-mode (at_amc q)) in cc
listed (fusc h) e = cc

-- the shift is below 48
pub shift_lt : (c : Setup) (s : ℕ) → shift_of c s < 48
unfolding shift_of
shift_lt c s =
    cases (eqb c.mode 0) (λ e. rw e (lit< tt))
    (λ e. rw e (cases (eqb c.mode 1) (λ e₁. rw e₁ (omega arith))
    (λ e₁. rw e₁ (cases (eqb c.mode 2) (λ e₂. rw e₂ (omega arith))
    (λ e₂. rw e₂ (cases (is_amc c.mode) (λ e₃. rw e₃ (omega arith))
    (λ e₃. rw e₃ (cases (eqb c.mode 7) (λ e₇. rw e₇ (omega arith)) (λ e₇. rw e₇ (lit< tt))))))))))

-- in the modes before AMC a row starts at the same number in the grid as in the numbers of spots: either the size is 2048 or there is one row
row_start : {c : Setup} → Ranged c → c.mode < 3 → (row : ℕ) → row < symbols c → row * 2048 ≡ row * c.size
unfolding symbols_of
row_start (own (pusc-dl h)) l row r = omega arith
row_start (own (pusc-ul h)) l row r = omega arith
row_start (own (ofusc {n = n} w h)) l row r = let z : row ≡ 0 = omega arith in rw z (omega arith)
row_start (own (amc q w h)) l row r = absurd (omega arith)
row_start (fusc h) l row r = absurd (omega arith)

early_symbols : {c : Setup} → Ranged c → c.mode < 3 → symbols c ≤ 3
unfolding symbols_of
early_symbols (own (pusc-dl h)) l = omega arith
early_symbols (own (pusc-ul h)) l = omega arith
early_symbols (own (ofusc w h)) l = omega arith
early_symbols (own (amc q w h)) l = absurd (omega arith)
early_symbols (fusc h) l = absurd (omega arith)

module _ {c : Setup} (v : Valid c) (early : c.mode < 3) (slot s : ℕ) (hs : s < subchannels c) where
  lies : (m : ℕ) → m < 48 → DataSpot (symbols c) (band c).used (λ o u. is_pilot c (slot * symbols c + o) u) (spot_of c slot s m)
  lies m h = (slot_law v slot).lies s m hs h

  by_size : (m : ℕ) → m < 48 → carrier_number 2048 (band c) (spot_of c slot s m) ≡ carrier_number c.size (band c) (spot_of c slot s m)
  by_size m h = ap (λ (x : ℕ). x + carrier_of (band c) (spot_of c slot s m).used) (row_start v.ranged early (spot_of c slot s m).offset (lies m h).offset_lt)

  pub row_1 : c.mode ≡ 1 → (row : List ℕ) → row ≡ tabulate 48 (pusc-ul.place_number c.cell s)
      → Turned (shift_of c s) (point_place c slot s) row
  unfolding spot_of shift_of band_of
  row_1 q row e =
      turned_row (shift_of c s) _ (pusc-ul.place_number c.cell s) row e
      (λ m h. ap (λ (by : ℕ). pusc-ul.place_number c.cell s ((m + by) % 48)) (sym (by-mode (at_1 q)))
      ∙ number_on_place c.cell s m ∙ ap₂ (carrier_number 2048) (by-mode (at_1 q)) (by-mode (at_1 q)) ∙ by_size m h)

  -- a subchannel's spots are small, so that a row of them becomes a row of carriers
  module _ (row : List ℕ) (t : Turned (shift_of c s) (λ m. spot_number (spot_of c slot s m)) row) where
    pub spots_below : Below 48 8192 row
    spots_below =
        turned_below (shift_of c s) 8192 _ row (shift_lt c s) t
        (λ m h. omega (arith, few v.ranged, early_symbols v.ranged early, (lies m h).offset_lt, (lies m h).used_lt))

    pub carriers_of : (row' : List ℕ) → row' ≡ tabulate 48 (λ k. carrier_step (band c) (entry row k)) → Turned (shift_of c s) (point_place c slot s) row'
    carriers_of row' e m h =
        turned_by (shift_of c s) (λ m. spot_number (spot_of c slot s m)) (carrier_step (band c)) row row' t e m h
        ∙ step_carrier (band c) (spot_of c slot s m) (omega (arith, few v.ranged, (lies m h).used_lt))
        ∙ by_size m h

-- a row of FUSC, whose slot has one symbol
pub row_7 : {c : Setup} → Ranged c → c.mode ≡ 7 → (slot s : ℕ) (row : List ℕ)
    → Turned (13 * s % 48) (λ m. carrier_of fusc_band (fusc-map.spot_of c.pilots c.cell s m).used) row → Turned (shift_of c s) (point_place c slot s) row
unfolding spot_of shift_of band_of fusc-map.spot_of
row_7 (own u) e slot s row t m h = absurd (omega (arith, own_mode u))
row_7 (fusc l) e slot s row t m h = t m h ∙ omega arith
