-- What inner functions say. No reader needs this to know what the calls do.
use Rattle.std.specs.Prelude.{◌≡◌, List, ℕ, ◌≤◌}
use Rattle.base.specs.Choice.{pick}
use Rattle.base.specs.Steps.{entry}
use Rattle.base.specs.Tabulate.{tabulate}
use Rattle.burst.specs.declared.Burst.{Burst}
use Rattle.burst.specs.Burst.{is_of}
use Rattle.burst_list.specs.Model.{list_refusal}

-- A list that was accepted, in a zone of at most 192 subchannels.
pub record Accepted (numbers : List ℕ) : Type 0 where
  pub subchannel_end : ℕ
  pub slot_end : ℕ
  pub at_most_192 : subchannel_end ≤ 192
  pub no_refusal : list_refusal subchannel_end slot_end numbers ≡ 0

-- A row with a run of so many entries, from the first on, set to a value.
abbrev pub marked : (first many value : ℕ) (row : List ℕ) → List ℕ
marked first many value row = tabulate 192 (λ s. pick (is_of first many s) value (entry row s))

-- A row with the entries of a burst's subchannels set to a value, where the burst covers the slot.
abbrev pub marked_by : (burst : Burst) (slot value : ℕ) (row : List ℕ) → List ℕ
marked_by burst slot value row = pick (is_of burst.slot burst.slots slot) (marked burst.subchannel burst.subchannels value row) row
