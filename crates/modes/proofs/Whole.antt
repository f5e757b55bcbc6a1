-- Every valid setup meets the law of its band and the law of the centre: one clause a case of validity.
use Rattle.base.proofs.Prelude.{◌≡◌, refl, ◌*◌, ◌/◌, arith}
use Rattle.carriers.specs.Law.{Whole}
use Rattle.carriers.proofs.Guards.{pusc-band, bin-band, fusc-band}
use Rattle.centre.specs.Law.{CentreLaw}
use Rattle.centre.proofs.Law.{centre_law}
use Rattle.ofusc.proofs.Sequence.{pos}
use Rattle.modes.specs.{Setup.Setup, Mode.{width_of, band, band_of}}
use Rattle.modes.specs.Model.{pusc-dl, pusc-ul, ofusc, amc, Ranged, own, fusc}
use Rattle.modes.proofs.{Choice.amc_column, Accept.width_is}

-- the band takes up the symbol
pub band_law : {c : Setup} → Ranged c → Whole (band c) c.size
unfolding band_of width_of
band_law (own (pusc-dl h)) = pusc-band
band_law (own (pusc-ul h)) = pusc-band
band_law (own (ofusc {n = n} w h)) = rw (width_is n) (bin-band n (pos w))
band_law (own (amc {n = n} q w h)) = simp (amc_column, width_is n) (bin-band n (pos w))
band_law (fusc h) = fusc-band

-- every size is even, and DC stands in its middle
pub centred : {c : Setup} → Ranged c → CentreLaw c.size × ((band c).dc ≡ c.size / 2)
unfolding band_of width_of
centred (own (pusc-dl h)) = (centre_law 2048 refl, refl)
centred (own (pusc-ul h)) = (centre_law 2048 refl, refl)
centred (own (ofusc {n = n} w h)) = (centre_law (64 * n) (omega arith), rw (width_is n) (omega arith))
centred (own (amc {n = n} q w h)) = (centre_law (64 * n) (omega arith), simp (amc_column, width_is n) (omega arith))
centred (fusc h) = (centre_law 2048 refl, refl)
