-- What a valid setup says of its mode.
use Rattle.base.proofs.Prelude.{◌≡◌, refl, sym, ap, ◌∙◌, List, ℕ, ◌*◌, ◌/◌, ◌<◌, ◌≤◌, mul-le-mul, arith}
use Rattle.ofusc.specs.Width.{Width}
use Rattle.ofusc.proofs.Sequence.{size}
use Rattle.amc.proofs.Parts.{symbols_pos, symbols_few, symbols_are}
use Rattle.modes.specs.{Setup.{Setup, setup_lent, setup_with}, Mode.{shape_of, width, width_of, cells, cells_of, subchannels, subchannels_of, symbols, symbols_of, band, band_of}}
use Rattle.modes.specs.Model.{OverBins, IsAmc, pusc-dl, pusc-ul, ofusc, amc, Ranged, own, fusc, Valid}
use Rattle.modes.proofs.{Choice.{amc_shape, at_amc, by-mode, amc_column}, Accept.width_is}

-- what questions 1, 2 and 3 let pass does not go by what is lent
pub ranged_with : {mode size cell : ℕ} {pilots other : List ℕ} → Ranged (setup_lent mode size cell pilots) → Ranged (setup_lent mode size cell other)
ranged_with (own (pusc-dl h)) = own (pusc-dl h)
ranged_with (own (pusc-ul h)) = own (pusc-ul h)
ranged_with (own (ofusc w h)) = own (ofusc w h)
ranged_with (own (amc q w h)) = own (amc q w h)
ranged_with (fusc h) = fusc h

-- so a function that takes no list may be called with a valid setup
pub ranged_alone : {mode size cell : ℕ} {pilots : List ℕ} → Valid (setup_lent mode size cell pilots) → Ranged (setup_with mode size cell)
ranged_alone v = ranged_with v.ranged

-- what AMC's shape gives
module _ (c : Setup) (q : IsAmc c.mode) where
  pub shape_symbols : (shape_of c.mode).symbols ≡ symbols c
  unfolding symbols_of
  shape_symbols = by-mode (at_amc q)

  pub shape_subchannels : width c * (shape_of c.mode).symbols ≡ subchannels c
  unfolding subchannels_of
  shape_subchannels = by-mode (at_amc q)

  bin_used : (band c).used ≡ 54 * width c
  unfolding band_of
  bin_used = simp amc_column

-- a slot has 1, 2, 3 or 6 symbols
pub six_symbols : {c : Setup} → Ranged c → (symbols c ≡ 1 → ⊥) → (symbols c ≡ 2 → ⊥) → (symbols c ≡ 3 → ⊥) → symbols c ≡ 6
unfolding symbols_of
six_symbols (own (pusc-dl h)) n₁ n₂ n₃ = absurd (n₂ refl)
six_symbols (own (pusc-ul h)) n₁ n₂ n₃ = absurd (n₃ refl)
six_symbols (own (ofusc w h)) n₁ n₂ n₃ = absurd (n₁ refl)
six_symbols (fusc h) n₁ n₂ n₃ = absurd (n₁ refl)
six_symbols {c} (own (amc {mode = m} q w h)) n₁ n₂ n₃ =
    let e = shape_symbols c q in
    sym e ∙ symbols_are (shape_of m) (amc_shape m q) (λ z. n₁ (sym e ∙ z)) (λ z. n₂ (sym e ∙ z)) (λ z. n₃ (sym e ∙ z))

-- a quotient by a slot's symbols, their number being known
pub by_symbols : (y n k m : ℕ) → n ≡ k → n ≡ m → y / m ≡ y / k
by_symbols y n k m e f = ap (λ (t : ℕ). y / t) (sym f ∙ e)

-- the ranges of a valid setup, once its mode is known
pub record Ranges (c : Setup) (cells subchannels' used : ℕ) : Type 0 where
  pub cell_lt : c.cell < cells
  pub subchannels_are : subchannels c ≡ subchannels'
  pub used_are : (band c).used ≡ used

pub cell_in : {c : Setup} → Ranged c → c.cell < cells c
unfolding cells_of width_of
cell_in (own (pusc-dl h)) = h
cell_in (own (pusc-ul h)) = h
cell_in (own (ofusc {n = n} w h)) = rw (width_is n) h
cell_in (own (amc q w h)) = simp amc_column h
cell_in (fusc h) = h

module _ {c : Setup} (v : Ranged c) where
  pub in_pusc_dl : c.mode ≡ 0 → Ranges c 32 60 1680
  unfolding cells_of subchannels_of band_of
  in_pusc_dl e = record { cell_lt = rw e at (cell_in v); subchannels_are = rw e; used_are = rw e }

  pub in_pusc_ul : c.mode ≡ 1 → Ranges c 70 70 1680
  unfolding cells_of subchannels_of band_of
  in_pusc_ul e = record { cell_lt = rw e at (cell_in v); subchannels_are = rw e; used_are = rw e }

  pub in_ofusc : c.mode ≡ 2 → Ranges c (width c * width c) (width c) (54 * width c)
  unfolding cells_of subchannels_of band_of width_of
  in_ofusc e = record { cell_lt = rw e at (cell_in v); subchannels_are = rw e; used_are = rw e }

  pub in_amc : IsAmc c.mode → Ranges c 2352 (width c * (shape_of c.mode).symbols) (54 * width c)
  unfolding cells_of
  in_amc q =
      record {
        cell_lt = simp amc_column at (cell_in v);
        subchannels_are = sym (shape_subchannels c q);
        used_are = bin_used c q;
      }

  pub in_fusc : c.mode ≡ 7 → Ranges c 32 32 1702
  unfolding cells_of subchannels_of band_of
  in_fusc e = record { cell_lt = rw e at (cell_in v); subchannels_are = rw e; used_are = rw e }

-- the modes over bins have a width N
pub bin_width : {c : Setup} → Ranged c → OverBins c.mode → Width (width c)
unfolding width_of
bin_width (own (pusc-dl h)) o = absurd (omega arith)
bin_width (own (pusc-ul h)) o = absurd (omega arith)
bin_width (own (ofusc {n = n} w h)) o = rw (width_is n) w
bin_width (own (amc {n = n} q w h)) o = rw (width_is n) w
bin_width (fusc h) o = absurd (omega arith)

-- what AMC asks
module _ {c : Setup} (v : Ranged c) (q : IsAmc c.mode) where
  pub amc_width : Width (width c)
  amc_width = bin_width v (omega arith)

  pub few_symbols : (shape_of c.mode).symbols ≤ 6
  few_symbols = symbols_few (shape_of c.mode) (amc_shape c.mode q)

  pub few_subchannels : subchannels c ≤ 192
  few_subchannels =
      omega (arith, shape_subchannels c q, mul-le-mul {n₁ = width c} {m₁ = (shape_of c.mode).symbols} {n₂ = 32} {m₂ = 6} (size amc_width).most few_symbols)

-- what a valid setup has is few
pub record Few (c : Setup) : Type 0 where
  pub symbols_pos : 0 < symbols c
  pub symbols_few : symbols c ≤ 6
  pub size_few : c.size ≤ 2048
  pub subchannels_few : subchannels c ≤ 192
  pub left_few : (band c).left ≤ 184
  pub half_few : (band c).half ≤ 864
  pub used_few : (band c).used ≤ 1728

pub few : {c : Setup} → Ranged c → Few c
unfolding symbols_of subchannels_of band_of width_of
few (own (pusc-dl h)) = omega arith
few (own (pusc-ul h)) = omega arith
few (own (ofusc w h)) = let b = (size w).most in omega arith
few (fusc h) = omega arith
few {c} (own (amc {mode = m} {pilots = lent} q w h)) =
    let shape = amc_shape m q in
    let n = (size w).most in
    record {
      symbols_pos = simp amc_column (symbols_pos (shape_of m) shape);
      symbols_few = simp amc_column (symbols_few (shape_of m) shape);
      size_few = omega arith;
      subchannels_few = few_subchannels (own (amc {pilots = lent} q w h)) q;
      left_few = simp amc_column (omega arith);
      half_few = simp amc_column (omega arith);
      used_few = simp amc_column (omega arith);
    }

-- a zone's symbols and a grid's rows are few
pub slot_few : {c : Setup} → Ranged c → (slot n : ℕ) → slot < 512 → n ≡ symbols c → slot * n ≤ 3072
slot_few v slot n h e =
    let r = few v in
    mul-le-mul {n₁ = slot} {m₁ = n} {n₂ = 512} {m₂ = 6} (omega arith) (omega arith)

pub row_few : {c : Setup} → Ranged c → (row : ℕ) → row < symbols c → row * c.size ≤ 12288
row_few {c} v row h =
    let r = few v in
    mul-le-mul {n₁ = row} {m₁ = c.size} {n₂ = 6} {m₂ = 2048} (omega arith) r.size_few
