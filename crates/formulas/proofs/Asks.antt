-- What the modes' formulas ask of a valid setup, and what they put together.
use Rattle.base.proofs.Prelude.{◌≡◌, sym, ap, ap₂, ◌∙◌, true, false, ℕ, ◌*◌, ◌/◌, ◌%◌, ◌<◌, mod-lt, div-add-mod', arith}
use Rattle.base.proofs.LeaveOut.{unskip_le}
use Rattle.ofusc.specs.Width.{Width}
use Rattle.ofusc.proofs.Sequence.{size}
use Rattle.carriers.specs.{declared.Spot.Spot, declared.DataNumber.DataNumber, declared.Address.Address}
use Rattle.carriers.specs.{Bin.{bin_pilot_place, data_of_used, bin_spot, in_only_symbol}, Law.NumberLaw}
use Rattle.carriers.proofs.Bin.{data_lt}
use Rattle.clusters.specs.Cluster.{is_cluster_pilot}
use Rattle.clusters.proofs.Tables.{pilot_parity}
use Rattle.pusc_ul.specs.Tile.{is_tile_pilot}
use Rattle.amc.specs.{declared.Shape.Shape, Model.IsShape}
use Rattle.modes.specs.{Setup.Setup, Mode.{shape_of, width, subchannels, symbols, band}}
use Rattle.formulas.specs.Formula.{is_pilot, spot_of, address_of}
use Rattle.modes.specs.Model.{IsAmc, Ranged, Valid}
use Rattle.modes.proofs.Choice.{amc_shape, at_0, at_1, at_2, at_amc, at_7, by-mode}
use Rattle.modes.proofs.ByMode.{shape_symbols, shape_subchannels, in_pusc_dl, in_pusc_ul, in_ofusc, in_amc, in_fusc, bin_width, amc_width, few_symbols, few_subchannels, few}
use Rattle.modes.proofs.Lent.{list_lent}
use Rattle.pilot_list.specs.List.{is_in, is_pilot_list}
use Rattle.ofusc.specs.Map as spread
use Rattle.ofusc.proofs.Law as spread-law
use Rattle.amc.specs.Map as adjacent
use Rattle.amc.proofs.Law as adjacent-law

-- what the numberings of the modes over bins ask of a valid setup, and that their numbers are few
module _ {c : Setup} (v : Ranged c) (n : ℕ) (e : n ≡ width c) (s m : ℕ) (hs : s < subchannels c) (hm : m < 48) where
  pub ofusc_asks : c.mode ≡ 2 → Width n × ((c.cell < n * n) × (s < n) × (m < 48))
  ofusc_asks q =
      let r = in_ofusc v q in
      (rw e (bin_width v (omega arith)), (rw e r.cell_lt, rw e (rw r.subchannels_are at hs), hm))

  pub ofusc_few : c.mode ≡ 2 → spread.data_number n c.cell s m < 65536
  ofusc_few q =
      let a = ofusc_asks q in
      omega (arith, size a.0, (spread-law.law a.0 c.cell).number_lt s m a.1.1 hm)

module _ {c : Setup} (v : Ranged c) (q : IsAmc c.mode) where
  module _ (s m : ℕ) (hs : s < subchannels c) (hm : m < 48) (shape : Shape) (e : shape ≡ shape_of c.mode) where
    pub amc_asks : IsShape shape × (c.cell < 2352) × (s < 65536) × (m < 48)
    amc_asks = (rw e (amc_shape c.mode q), (in_amc v q).cell_lt, omega (arith, few_subchannels v q), hm)

    place_law : NumberLaw (shape_of c.mode).symbols (width c * (shape_of c.mode).symbols) (48 * width c) (adjacent.data_number (shape_of c.mode) c.cell) (adjacent.address_of (shape_of c.mode) c.cell)
    place_law = adjacent-law.law (shape_of c.mode) (amc_shape c.mode q) c.cell (in_amc v q).cell_lt (width c)

    pub amc_few : ((adjacent.data_number shape c.cell s m).offset < 65536) × ((adjacent.data_number shape c.cell s m).number < 65536)
    amc_few =
        let hs' = rw (← shape_subchannels c q) at hs in
        rw e (omega (arith, few_symbols v q, place_law.offset_lt s m hs' hm), omega (arith, size (amc_width v q), place_law.number_lt s m hs' hm))

-- what the modes ask of a used number that is no pilot
module _ {c : Setup} (v : Ranged c) (y u : ℕ) (hu : u < (band c).used) (np : is_pilot c y u ≡ false) where
  pub pusc_dl_asks : c.mode ≡ 0 → (c.cell < 32) × (y % 2 < 2) × (u < 1680) × (is_cluster_pilot (y % 2) u ≡ false)
  unfolding is_pilot
  pusc_dl_asks q =
      let r = in_pusc_dl v q in (
        r.cell_lt,
        omega arith,
        rw r.used_are at hu,
        sym (pilot_parity (y / 2) (y % 2) u) ∙ ap (λ (t : ℕ). is_cluster_pilot t u) (div-add-mod' y 2) ∙ by-mode (at_0 q) ∙ np,
      )

  pub pusc_ul_asks : c.mode ≡ 1 → (c.cell < 70) × (y % 3 < 3) × (u < 1680) × (is_tile_pilot (y % 3) u ≡ false)
  unfolding is_pilot
  pusc_ul_asks q =
      let r = in_pusc_ul v q in
      (r.cell_lt, omega arith, rw r.used_are at hu, by-mode (at_1 q) ∙ np)

  pub ofusc_back_asks : (n : ℕ) → n ≡ width c → (d : ℕ) → d ≡ data_of_used y u → c.mode ≡ 2 → (c.cell < n * n) × (d < 48 * n)
  unfolding is_pilot
  ofusc_back_asks n e d h q =
      let r = in_ofusc v q in
      (rw e r.cell_lt, rw (e, h) (data_lt y u (by-mode (at_2 q) ∙ np) (width c) (rw r.used_are at hu)))

  pub amc_back_asks : (shape : Shape) → shape ≡ shape_of c.mode → (o : ℕ) → o ≡ y % symbols c → (d : ℕ) → d ≡ data_of_used y u → IsAmc c.mode
      → IsShape shape × (c.cell < 2352) × (o < shape.symbols) × (d < 65536)
  unfolding data_of_used
  amc_back_asks shape e o f d h q =
      let t = mod-lt y (few v).symbols_pos in (
        rw e (amc_shape c.mode q),
        (in_amc v q).cell_lt,
        rw (e, f, shape_symbols c q) t,
        omega (arith, h, unskip_le (bin_pilot_place y) (u % 9), (few v).used_few),
      )

-- what the modes over bins put together
module _ (c : Setup) (slot s m n : ℕ) (e : n ≡ symbols c) (x : DataNumber) (r : Spot) (f : r ≡ bin_spot (slot * n) x) where
  pub ofusc_spot : c.mode ≡ 2 → x ≡ in_only_symbol (spread.data_number (width c) c.cell s m) → r ≡ spot_of c slot s m
  unfolding spot_of
  ofusc_spot q g = f ∙ ap₂ (λ (k : ℕ) (t : DataNumber). bin_spot (slot * k) t) e g ∙ by-mode (at_2 q)

  pub amc_spot : IsAmc c.mode → (shape : Shape) → shape ≡ shape_of c.mode → x ≡ adjacent.data_number shape c.cell s m → r ≡ spot_of c slot s m
  unfolding spot_of
  amc_spot q shape h g =
      f ∙ ap₂ (λ (k : ℕ) (t : DataNumber). bin_spot (slot * k) t) e (g ∙ ap (λ (t : Shape). adjacent.data_number t c.cell s m) h) ∙ by-mode (at_amc q)

pub amc_address : (c : Setup) (y u : ℕ) (shape : Shape) → shape ≡ shape_of c.mode → (o : ℕ) → o ≡ y % symbols c → (d : ℕ) → d ≡ data_of_used y u
    → (r : Address) → r ≡ adjacent.address_of shape c.cell o d → IsAmc c.mode → r ≡ address_of c y u
unfolding address_of
amc_address c y u shape e o f d h r g q =
    let o_is : o ≡ y % (shape_of c.mode).symbols = f ∙ ap (λ (t : ℕ). y % t) (sym (shape_symbols c q)) in
    g ∙ rw (e, o_is, h) (by-mode (at_amc q))

-- what FUSC asks of a valid setup, to place and to locate
module _ {c : Setup} (v : Valid c) (q : c.mode ≡ 7) where
  pub fusc_asks : (s m : ℕ) → s < subchannels c → m < 48 → (c.cell < 32) × (s < 32) × (m < 48) × (is_pilot_list c.pilots ≡ true)
  fusc_asks s m hs hm =
      let r = in_fusc v.ranged q in
      (r.cell_lt, rw r.subchannels_are at hs, hm, list_lent v q)

  pub fusc_back_asks : (y u : ℕ) → u < (band c).used → is_pilot c y u ≡ false → (c.cell < 32) × (u < 1702) × (is_in c.pilots u ≡ false) × (is_pilot_list c.pilots ≡ true)
  unfolding is_pilot
  fusc_back_asks y u hu np =
      let r = in_fusc v.ranged q in
      (r.cell_lt, rw r.used_are at hu, by-mode (at_7 q) ∙ np, list_lent v q)
