-- Every valid setup meets the law of a slot: one clause a case of validity. All that is said of the map above rests on this law, on that of its band and on that of the centre.
use Rattle.base.proofs.Prelude.{◌≡◌, refl, ap, true, subst⁻¹, ℕ, ◌+◌, ◌*◌, ◌%◌, ◌<◌, arith, digits_mod}
use Rattle.carriers.specs.{Bin.{is_bin_pilot, data_of_used, bin_spot, in_only_symbol}, Law.SlotLaw}
use Rattle.carriers.proofs.{Bin.bin_law, Relabel.relabel}
use Rattle.clusters.proofs.Tables.{pilot_parity}
use Rattle.pusc_ul.specs.Tile.{is_tile_pilot}
use Rattle.modes.specs.{Setup.Setup, Mode.{shape_of, width_of, subchannels, subchannels_of, symbols, symbols_of, band, band_of}, Question.is_lent}
use Rattle.formulas.specs.Formula.{is_pilot, spot_of, address_of}
use Rattle.modes.specs.Model.{pusc-dl, pusc-ul, ofusc, amc, Ranged, own, fusc, Valid}
use Rattle.modes.proofs.{Choice.{amc_shape, amc_column}, Accept.width_is}
use Rattle.pusc_dl.specs.Map as dl
use Rattle.pusc_dl.proofs.Law as dl-law
use Rattle.pusc_ul.specs.Map as ul
use Rattle.pusc_ul.proofs.Law as ul-law
use Rattle.ofusc.specs.Map as spread
use Rattle.ofusc.proofs.Law as spread-law
use Rattle.amc.specs.Map as adjacent
use Rattle.amc.proofs.Law as adjacent-law
use Rattle.fusc.proofs.Law as fusc-law

-- the law of slot `slot` under a setup
abbrev pub LawOf : Setup → ℕ → Type 0
LawOf c slot =
    SlotLaw (symbols c) (subchannels c) (band c).used
    (λ o u. is_pilot c (slot * symbols c + o) u) (λ s m. spot_of c slot s m) (λ o u. address_of c (slot * symbols c + o) u)

-- the symbol's offset in its slot
offset_2 : (slot o : ℕ) → o < 2 → (slot * 2 + o) % 2 ≡ o
offset_2 slot o h = omega arith

offset_3 : (slot o : ℕ) → o < 3 → (slot * 3 + o) % 3 ≡ o
offset_3 slot o h = omega arith

lent_law : {c : Setup} → Ranged c → is_lent c ≡ true → (slot : ℕ) → LawOf c slot
unfolding is_lent symbols_of subchannels_of band_of is_pilot spot_of address_of width_of
lent_law (own (pusc-dl {cell = cell} h)) e slot =
    relabel
    (λ o u l. pilot_parity slot o u)
    (λ o u l. ap (λ (y : ℕ). dl.address_of cell y u) (offset_2 slot o l))
    (dl-law.law cell)
lent_law (own (pusc-ul {cell = cell} h)) e slot =
    relabel
    (λ o u l. ap (λ (y : ℕ). is_tile_pilot y u) (offset_3 slot o l))
    (λ o u l. ap (λ (y : ℕ). ul.address_of cell y u) (offset_3 slot o l))
    (ul-law.law cell)
lent_law (own (ofusc {n = n} {cell = cell} w h)) e slot =
    subst⁻¹ (λ (t : ℕ). SlotLaw 1 t (54 * t) (λ o u. is_bin_pilot (slot * 1 + o) u) (λ s m. bin_spot (slot * 1) (in_only_symbol (spread.data_number t cell s m))) (λ o u. spread.address_of t cell (data_of_used (slot * 1 + o) u)))
    (width_is n) (bin_law (slot * 1) n (spread-law.law w cell))
lent_law (own (amc {mode = mode} {n = n} {cell = cell} q w h)) e slot =
    let shape = shape_of mode in
    let first = slot * shape.symbols in
    simp (amc_column, width_is n)
    (relabel
    (λ o u l. refl)
    (λ o u l. ap (λ (y : ℕ). adjacent.address_of shape cell y (data_of_used (first + o) u)) (digits_mod slot l))
    (bin_law first n (adjacent-law.law shape (amc_shape mode q) cell h n)))
lent_law (fusc {cell = cell} {pilots = pilots} h) e slot = fusc-law.law pilots e cell

pub slot_law : {c : Setup} → Valid c → (slot : ℕ) → LawOf c slot
slot_law v = lent_law v.ranged v.is-lent
