-- How long the lent buffers of a slot are. Document 01, "Grids": the points of all its subchannels, or of the lit ones, and a point a carrier for each of its symbols.
use Rattle.std.specs.Prelude.{ℕ, ◌*◌}
use Rattle.base.specs.Choice.{pick}
use Rattle.modes.specs.Setup.{Setup, setup_with}
use Rattle.modes.specs.Mode.{subchannels, symbols_of}
use Rattle.modes.specs.Question.{is_listed, is_size_of}
use Rattle.mask.specs.Mask.{is_mask, lit_subchannels}

-- the points of a slot's grid
unfoldable pub grid_points_of : (mode size : ℕ) → ℕ
grid_points_of mode size = symbols_of mode * size

abbrev pub grid_points : (setup : Setup) → ℕ
grid_points setup = grid_points_of setup.mode setup.size

-- a length where questions 1 and 2 are answered yes; 0 for a mode and size that the map does not have
abbrev pub where_listed : (mode size length : ℕ) → ℕ
where_listed mode size length = pick (is_listed mode) (pick (is_size_of mode size) length 0) 0

-- As document 01's question 8 has it: 96 floats for each subchannel. The cell plays no part in a length, so it is 0 here.
unfoldable pub points_length : (mode size : ℕ) → ℕ
points_length mode size = let setup = setup_with mode size 0 in where_listed mode size (96 * subchannels setup)

-- Document 02, wish 5: only the lit subchannels count; 0 also for a mask that question 17 does not let pass.
unfoldable pub lit_points_length : (mode size mask : ℕ) → ℕ
lit_points_length mode size mask =
    let setup = setup_with mode size 0 in
    where_listed mode size (pick (is_mask mode mask) (96 * lit_subchannels setup mask) 0)

-- As question 9 has it: 2·size floats for each symbol of a slot.
unfoldable pub grid_length : (mode size : ℕ) → ℕ
grid_length mode size = let setup = setup_with mode size 0 in where_listed mode size (2 * grid_points setup)
