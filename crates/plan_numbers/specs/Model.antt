-- What inner functions say. No reader needs this to know what the calls do.
use Rattle.std.specs.Prelude.{List, ℕ, get_or}
use Rattle.zone.specs.declared.Zone.{Zone}
use Rattle.zone.specs.Zone.{unused}
use Rattle.zone.specs.Model.{Small}

-- Each of the places has numbers that fit into 32 bits.
abbrev pub AllSmall : (zones : List Zone) → Type 0
AllSmall zones = (k : ℕ) → Small (get_or zones k unused)
