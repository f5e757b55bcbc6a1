-- What is claimed of a list of bursts and its owners: THE LAW OF THE BURSTS. Its proof is `burst_law`.
use Rattle.std.specs.Prelude.{◌≡◌, true, false, List, ℕ, ◌+◌, ◌%◌, ◌<◌, ◌≤◌, length}
use Rattle.base.specs.Steps.{entry}
use Rattle.modes.specs.Mode.{subchannels}
use Rattle.mask.specs.Mask.{is_mask}
use Rattle.zone.specs.declared.Zone.{Zone}
use Rattle.zone.specs.Zone.{setup_of, fields_refusal}
use Rattle.burst.specs.Burst.{burst_at, is_covering}
use Rattle.burst_list.specs.List.{burst_count}
use Rattle.burst_owner.specs.Owner.{no_owner}
use Rattle.bursts.specs.Burst.{check_of}
use Rattle.bursts.specs.Owner.{owner_of, owners_of}

-- The burst at a position of the list covers a subchannel in a slot.
abbrev pub Covers : (numbers : List ℕ) (i slot subchannel : ℕ) → Type 0
Covers numbers i slot subchannel = is_covering (burst_at numbers i) slot subchannel ≡ true

-- The burst at a position of the list covers nothing beside its zone.
abbrev pub InZone : (size : ℕ) (zone : Zone) (numbers : List ℕ) (i : ℕ) → Type 0
InZone size zone numbers i = (slot subchannel : ℕ) → Covers numbers i slot subchannel → (slot < zone.slots) × (subchannel < subchannels (setup_of size zone))

-- A zone with another mask in place of its own.
abbrev pub masked : (zone : Zone) (mask : ℕ) → Zone
masked zone mask = record { mode = zone.mode; cell = zone.cell; slots = zone.slots; mask = mask }

-- Two numbers are masks of a mode, by question 17.
abbrev pub Masks : (mode m n : ℕ) → Type 0
Masks mode m n = (is_mask mode m ≡ true) × (is_mask mode n ≡ true)

-- The first n bursts are fit for their zone, by what they cover.
pub record FirstFit (size : ℕ) (zone : Zone) (numbers : List ℕ) (n : ℕ) : Type 0 where
  -- None of them is empty: each covers some subchannel in some slot.
  pub not_empty : (i : ℕ) → i < n → (slot : ℕ) × (subchannel : ℕ) × Covers numbers i slot subchannel
  -- Each of them lies wholly in the zone.
  pub in_zone : (i : ℕ) → i < n → InZone size zone numbers i
  -- They are pairwise apart: a subchannel in a slot is covered by one at most.
  pub apart : (i j slot subchannel : ℕ) → i < n → j < n → Covers numbers i slot subchannel → Covers numbers j slot subchannel → i ≡ j

-- A list that is fit for its zone.
pub record Fit (size : ℕ) (zone : Zone) (numbers : List ℕ) : Type 0 where
  pub four_each : length numbers % 4 ≡ 0
  pub at_most_64 : burst_count numbers ≤ 64
  pub all_fit : FirstFit size zone numbers (burst_count numbers)

-- A list whose first fault is an overlap: the bursts before one are fit, it lies wholly in the zone too, and it covers what an earlier one covers.
pub record Overlapping (size : ℕ) (zone : Zone) (numbers : List ℕ) : Type 0 where
  pub four_each : length numbers % 4 ≡ 0
  pub at_most_64 : burst_count numbers ≤ 64
  pub i : ℕ
  pub in_list : i < burst_count numbers
  pub before_fit : FirstFit size zone numbers i
  pub in_zone : InZone size zone numbers i
  pub common : (j : ℕ) × (slot : ℕ) × (subchannel : ℕ) × (j < i) × Covers numbers j slot subchannel × Covers numbers i slot subchannel

pub record BurstLaw (size : ℕ) (zone : Zone) (numbers : List ℕ) : Type 0 where
  -- A zone that its own questions refuse gives their number.
  pub zone_first : (fields_refusal size zone ≡ 0 → ⊥) → check_of size zone numbers ≡ fields_refusal size zone
  pub accepted_zone : check_of size zone numbers ≡ 0 → fields_refusal size zone ≡ 0
  -- In any other zone a list is accepted exactly when it is fit.
  pub accepted_fit : check_of size zone numbers ≡ 0 → Fit size zone numbers
  pub fit_accepted : fields_refusal size zone ≡ 0 → Fit size zone numbers → check_of size zone numbers ≡ 0
  -- A list is refused by 19 exactly when its first fault is an overlap.
  pub refused_overlapping : fields_refusal size zone ≡ 0 → check_of size zone numbers ≡ 19 → Overlapping size zone numbers
  pub overlapping_refused : fields_refusal size zone ≡ 0 → Overlapping size zone numbers → check_of size zone numbers ≡ 19
  -- A list is refused by 18 for every other fault.
  pub else_18 : fields_refusal size zone ≡ 0 → (check_of size zone numbers ≡ 0 → ⊥) → (check_of size zone numbers ≡ 19 → ⊥) → check_of size zone numbers ≡ 18
  -- The calls refuse a list alike: one that is accepted once has an answer for every slot below 512 and every subchannel, and only such a list has one.
  pub owner_alike : (slot subchannel : ℕ) → slot < 512 → subchannel < subchannels (setup_of size zone) → (owner_of size zone slot subchannel numbers).refusal ≡ check_of size zone numbers
  pub owner_accepted : (slot subchannel : ℕ) → (owner_of size zone slot subchannel numbers).refusal ≡ 0 → check_of size zone numbers ≡ 0
  pub row_alike : (slot : ℕ) → slot < 512 → (owners_of size zone slot numbers).refusal ≡ check_of size zone numbers
  pub row_accepted : (slot : ℕ) → (owners_of size zone slot numbers).refusal ≡ 0 → check_of size zone numbers ≡ 0
  -- The first owner is the only one: a burst that covers a subchannel in a slot is its owner.
  pub only_owner : (slot subchannel i : ℕ) → (owner_of size zone slot subchannel numbers).refusal ≡ 0 → i < burst_count numbers → Covers numbers i slot subchannel
      → ((owner_of size zone slot subchannel numbers).owner ≡ i) × ((owner_of size zone slot subchannel numbers).looked ≡ i + 1)
  -- The owner of a subchannel in a slot is a burst that covers it.
  pub owner_covers : (slot subchannel : ℕ) → (owner_of size zone slot subchannel numbers).owner < no_owner
      → ((owner_of size zone slot subchannel numbers).owner < burst_count numbers) × Covers numbers (owner_of size zone slot subchannel numbers).owner slot subchannel
  -- Where a subchannel in a slot has no owner, no burst covers it and all were looked at.
  pub no-owner : (slot subchannel : ℕ) → (owner_of size zone slot subchannel numbers).refusal ≡ 0 → (owner_of size zone slot subchannel numbers).owner ≡ no_owner
      → ((owner_of size zone slot subchannel numbers).looked ≡ burst_count numbers) × ((i : ℕ) → i < burst_count numbers → is_covering (burst_at numbers i) slot subchannel ≡ false)
  -- How many bursts were looked at is "never above 64".
  pub looked_most : (slot subchannel : ℕ) → (owner_of size zone slot subchannel numbers).looked ≤ 64
  -- "A slot below 512 but past the zone has no owner."
  pub past_zone : (slot subchannel : ℕ) → zone.slots ≤ slot → (owner_of size zone slot subchannel numbers).owner ≡ no_owner
  -- The row at each subchannel (a zone has 192 at most) is the owner that the other call gives, and none past the mode's last.
  pub at_most_192 : fields_refusal size zone ≡ 0 → subchannels (setup_of size zone) ≤ 192
  pub row_long : (slot : ℕ) → length (owners_of size zone slot numbers).owners ≡ 192
  pub row_owner : (slot subchannel : ℕ) → subchannel < subchannels (setup_of size zone) → subchannel < 192 → entry (owners_of size zone slot numbers).owners subchannel ≡ (owner_of size zone slot subchannel numbers).owner
  pub row_past : (slot subchannel : ℕ) → subchannels (setup_of size zone) ≤ subchannel → subchannel < 192 → entry (owners_of size zone slot numbers).owners subchannel ≡ no_owner
  -- "A refusal's row is all 64", whatever the refusal is for.
  pub refused-row : (slot subchannel : ℕ) → ((owners_of size zone slot numbers).refusal ≡ 0 → ⊥) → subchannel < 192 → entry (owners_of size zone slot numbers).owners subchannel ≡ no_owner
  -- "Unlit subchannels count like lit ones": under every mask of the zone's mode each call gives the same answer, owners and refusals alike.
  pub check_any_mask : (m n : ℕ) → Masks zone.mode m n → check_of size (masked zone m) numbers ≡ check_of size (masked zone n) numbers
  pub owner_any_mask : (m n slot subchannel : ℕ) → Masks zone.mode m n → owner_of size (masked zone m) slot subchannel numbers ≡ owner_of size (masked zone n) slot subchannel numbers
  pub row_any_mask : (m n slot : ℕ) → Masks zone.mode m n → owners_of size (masked zone m) slot numbers ≡ owners_of size (masked zone n) slot numbers
