-- Lit major groups.
use Rattle.std.specs.Prelude.{Bool, ℕ, ◌/◌, ◌%◌, ◌^◌, eqb}

-- Document 02, wish 5: a mask, bit g for group g.
unfoldable pub has_group : (mask g : ℕ) → Bool
has_group mask g = eqb (mask / 2 ^ g % 2) 1
