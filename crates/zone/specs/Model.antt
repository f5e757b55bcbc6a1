-- What inner functions say. No reader needs this to know what the calls do.
use Rattle.std.specs.Prelude.{ℕ, ◌<◌, ◌≤◌, Option}
use Rattle.base.specs.Answer.{accepted, refusal_of}
use Rattle.zone.specs.declared.Zone.{Zone}
use Rattle.zone.specs.Zone.{ask_zone}

-- The number of the first question to a zone in its plan that is answered no, 0 where none is.
unfoldable pub zone_refusal : (size : ℕ) (before : Option ℕ) (zone : Zone) → ℕ
zone_refusal size before zone = refusal_of (ask_zone {A = Unit {0}} size before zone (accepted tt))

-- A zone whose values are in range at some size.
pub record Small (zone : Zone) : Type 0 where
  pub mode_most : zone.mode < 8
  pub cell_most : zone.cell < 2352
  pub slots_most : zone.slots ≤ 512
  pub mask_most : zone.mask ≤ 63
