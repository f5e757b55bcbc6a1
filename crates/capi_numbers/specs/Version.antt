-- The version of the library, as the header has it: BP_VERSION, BP_VERSION_MINOR and BP_VERSION_PATCH as one number.
use Rattle.std.specs.Prelude.{ℕ, ◌+◌, ◌*◌}

abbrev pub version : ℕ
version = 5 * 10000 + 0 * 100 + 0
