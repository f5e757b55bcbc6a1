-- Document 01, "The questions put to a request, in order": 1 to 7, each a test; and document 02's 20.
use Rattle.std.specs.Prelude.{Bool, true, false, ℕ, ◌*◌, eqb, ltb, ℤ, length}
use Rattle.base.specs.Choice.{pick}
use Rattle.base.specs.Answer.{Answer, ask}
use Rattle.centre.specs.Centre.{in_range}
use Rattle.pilot_list.specs.List.{is_pilot_list}
use Rattle.modes.specs.Setup.{Setup}
use Rattle.modes.specs.Mode.{by_mode, cells, subchannels, symbols}

-- 1 Is the mode listed? Document 01 lists 0 to 3, document 02 adds 4 to 6 (wish 2) and 7 (wish 8).
abbrev pub is_listed : (mode : ℕ) → Bool
is_listed mode = ltb mode 8

unfoldable pub is_mode : (setup : Setup) → Bool
is_mode setup = is_listed setup.mode

-- 2 Is the size that mode's? Modes 0, 1 and 7 have 2048, modes 2 to 6 the four sizes.
unfoldable pub is_four_sizes : (size : ℕ) → Bool
is_four_sizes size = pick (eqb size 256) true (pick (eqb size 512) true (pick (eqb size 1024) true (eqb size 2048)))

abbrev pub is_size_of : (mode size : ℕ) → Bool
is_size_of mode size = by_mode mode (eqb size 2048) (eqb size 2048) (is_four_sizes size) (is_four_sizes size) (eqb size 2048) false

unfoldable pub is_size : (setup : Setup) → Bool
is_size setup = is_size_of setup.mode setup.size

-- 3 Is the cell in range?
unfoldable pub is_cell : (setup : Setup) → Bool
is_cell setup = ltb setup.cell (cells setup)

-- 4 Is the slot below 512, the zone's symbol below 512 times the slot length?
unfoldable pub is_slot : (slot : ℕ) → Bool
is_slot slot = ltb slot 512

unfoldable pub is_symbol : (setup : Setup) (symbol : ℕ) → Bool
is_symbol setup symbol = ltb symbol (512 * symbols setup)

-- 5 Is the subchannel in range?
unfoldable pub is_subchannel : (setup : Setup) (subchannel : ℕ) → Bool
is_subchannel setup subchannel = ltb subchannel (subchannels setup)

-- 6 Is the index below 48?
unfoldable pub is_index : (index : ℕ) → Bool
is_index index = ltb index 48

-- 7 Is the carrier from -size/2 to size/2 - 1? Document 02, wish 3: question 7 is now about that range.
unfoldable pub is_carrier : (setup : Setup) (carrier : ℤ) → Bool
is_carrier setup carrier = in_range setup.size carrier

-- 20 Is the pilot list that is lent the mode's? Document 02, wish 8: refused is one not of 166 entries (0 in other modes), not strictly rising or beyond 1701.
unfoldable pub is_lent : (setup : Setup) → Bool
is_lent setup = pick (eqb setup.mode 7) (is_pilot_list setup.pilots) (eqb (length setup.pilots) 0)

-- the questions that every call with mode, size and cell puts first
abbrev pub ask_setup : {A : Type 0} (setup : Setup) (rest : Answer A) → Answer A
ask_setup setup rest =
    ask (is_mode setup) 1
    (ask (is_size setup) 2
    (ask (is_cell setup) 3 rest))

-- the questions of a symbol of the zone and a carrier, which come after these
abbrev pub ask_carrier : {A : Type 0} (setup : Setup) (symbol : ℕ) (carrier : ℤ) (rest : Answer A) → Answer A
ask_carrier setup symbol carrier rest =
    ask (is_symbol setup symbol) 4
    (ask (is_carrier setup carrier) 7 rest)
