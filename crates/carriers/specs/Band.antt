-- Used numbers and carriers, in all modes.
use Rattle.std.specs.Prelude.{Bool, true, ℕ, ◌+◌, ◌-◌, ◌*◌, leb, ltb, eqb}
use Rattle.base.specs.Choice.{pick}
use Rattle.base.specs.Steps.{skip, unskip}
use Rattle.carriers.specs.declared.Band.{Band}

-- Document 01, "Carriers of modes 2 and 3": 5N left guards, 5N-1 right guards, DC at 32N. Used number u is 0..54N-1, without DC; one more where u is 27N or above.
abbrev pub bin_band : (n : ℕ) → Band
bin_band n = record { left = 5 * n; right = 5 * n - 1; dc = 32 * n; used = 54 * n; half = 27 * n }

-- Document 01, "Partial usage": 184 left guards, DC 1024, 183 right; u is 0..1679; one more from u = 840.
abbrev pub pusc_band : Band
pusc_band = record { left = 184; right = 183; dc = 1024; used = 1680; half = 840 }

-- Document 02, wish 8: "173 left and 172 right guards, 1702 used numbers with DC skipped from 851 on".
abbrev pub fusc_band : Band
fusc_band = record { left = 173; right = 172; dc = 1024; used = 1702; half = 851 }

-- no carriers at all
abbrev pub no_band : Band
no_band = record { left = 0; right = 0; dc = 0; used = 0; half = 0 }

-- Document 01, "Carriers of modes 2 and 3" and "Partial usage": carrier = 5N+u (184+u), and one more where u is 27N (840) or above. It is the column on the symbol's row.
unfoldable pub carrier_of : (b : Band) (used : ℕ) → ℕ
carrier_of b used = b.left + skip b.half used

-- The reverse: the used number of a column that is no guard and not DC.
unfoldable pub used_of : (b : Band) (column : ℕ) → ℕ
used_of b column = unskip b.half (column - b.left)

-- The guards are the first `left` and the last `right` columns of the symbol's row.
unfoldable pub is_guard : (b : Band) (size column : ℕ) → Bool
is_guard b size column = pick (ltb column b.left) true (leb (size - b.right) column)

-- DC is one column.
unfoldable pub is_dc : (b : Band) (column : ℕ) → Bool
is_dc b column = eqb column b.dc
