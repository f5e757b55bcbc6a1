-- Document 01, "Modes and their ranges", and document 02, wishes 2 and 8: one column of the table a definition, the modes in order, then what an unlisted mode has.
use Rattle.std.specs.Prelude.{Bool, false, ℕ, ◌*◌, ◌/◌, eqb, leb, ltb}
use Rattle.base.specs.Choice.{pick}
use Rattle.carriers.specs.declared.Band.{Band}
use Rattle.carriers.specs.Band.{bin_band, pusc_band, fusc_band, no_band}
use Rattle.amc.specs.declared.Shape.{Shape}
use Rattle.modes.specs.Setup.{Setup}

abbrev pub shape : (bins symbols : ℕ) → Shape
shape bins symbols = record { bins = bins; symbols = symbols }

-- AMC's slots, bins of a subchannel by symbols: document 01 has mode 3, document 02, wish 2, the three others. No other mode has one.
unfoldable pub shape_of : (mode : ℕ) → Shape
shape_of mode =
    pick (eqb mode 3) (shape 6 1) (pick (eqb mode 4) (shape 2 3) (pick (eqb mode 5) (shape 3 2) (pick (eqb mode 6) (shape 1 6) (shape 0 0))))

-- Is it one of AMC's modes, 3 to 6?
abbrev pub is_amc : (mode : ℕ) → Bool
is_amc mode = pick (leb 3 mode) (ltb mode 7) false

-- PUSC downlink (mode 0, partial down), PUSC uplink (1, partial up), optional FUSC (2, spread), AMC (3 to 6, adjacent), FUSC (7, mandatory full usage); any other mode
abbrev pub by_mode : {A : Type 0} (mode : ℕ) (dl ul spread adjacent full other : A) → A
by_mode mode dl ul spread adjacent full other =
    pick (eqb mode 0) dl
    (pick (eqb mode 1) ul
    (pick (eqb mode 2) spread
    (pick (is_amc mode) adjacent
    (pick (eqb mode 7) full
    other))))

-- The columns go by mode and size alone; a setup has those of its own, whatever its cell and whatever is lent.

-- N of the modes over bins: the size is 64N
unfoldable pub width_of : (size : ℕ) → ℕ
width_of size = size / 64

abbrev pub width : (setup : Setup) → ℕ
width setup = width_of setup.size

-- Document 02, wish 8: mode 7 has size 2048, cell 0..31, 32 subchannels, one symbol a slot.
unfoldable pub cells_of : (mode size : ℕ) → ℕ
cells_of mode size = by_mode mode 32 70 (width_of size * width_of size) 2352 32 0

abbrev pub cells : (setup : Setup) → ℕ
cells setup = cells_of setup.mode setup.size

-- Modes 2 and 3 have N; document 02, wish 2: modes 4, 5 and 6 have 3N, 2N and 6N, N for each symbol of the slot.
unfoldable pub subchannels_of : (mode size : ℕ) → ℕ
subchannels_of mode size = by_mode mode 60 70 (width_of size) (width_of size * (shape_of mode).symbols) 32 0

abbrev pub subchannels : (setup : Setup) → ℕ
subchannels setup = subchannels_of setup.mode setup.size

-- symbols a slot
unfoldable pub symbols_of : (mode : ℕ) → ℕ
symbols_of mode = by_mode mode 2 3 1 (shape_of mode).symbols 1 0

abbrev pub symbols : (setup : Setup) → ℕ
symbols setup = symbols_of setup.mode

unfoldable pub band_of : (mode size : ℕ) → Band
band_of mode size = by_mode mode pusc_band pusc_band (bin_band (width_of size)) (bin_band (width_of size)) fusc_band no_band

abbrev pub band : (setup : Setup) → Band
band setup = band_of setup.mode setup.size
