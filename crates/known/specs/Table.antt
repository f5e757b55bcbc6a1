-- Document 01, "Known points": the starred lines, in its order, as one statement. A line's number is its place among the eleven. What document 02 adds stands behind the line that it belongs to; by its wish 3 carriers are restated less half the size, and a line's comment has document 01's own number. The proof is `known`.
use Rattle.std.specs.Prelude.{◌≡◌, Bool, true, false, List, [], ◌∷◌, ℕ, suc, ◌+◌, ◌*◌, ◌<◌, ◌≤◌, ℤ, pos, neg_ℤ, length}
use Rattle.base.specs.Answer.{Answer, accepted, refused}
use Rattle.base.specs.Tabulate.{tabulate}
use Rattle.pusc_ul.specs.Tile.{tile_of}
use Rattle.fusc.specs.Map.{data_number}
use Rattle.modes.specs.Setup.{setup_lent, setup_with}
use Rattle.map.specs.Place.{Place, Content, guard, dc, pilot, point, place_of, locate_of}
use Rattle.collision.specs.Collision.{ofusc_of, amc_of}
use Rattle.zone.specs.declared.Zone.{Zone}
use Rattle.plan.specs.declared.Plan.{Plan}
use Rattle.plan.specs.Plan.{each}
use Rattle.plan_read.specs.Read.{plan_with, plan_of}
use Rattle.bursts.specs.Owner.{OwnerAnswer}
use Rattle.bursts.specs.Burst.{check_of}
use Rattle.bursts.specs.Owner.{owner_of}

-- A carrier below DC.
abbrev pub minus : (k : ℕ) → ℤ
minus k = neg_ℤ (pos k)

-- A place that is accepted.
abbrev pub at : (symbol : ℕ) (carrier : ℤ) → Answer Place
at symbol carrier = accepted (record { symbol = symbol; carrier = carrier })

-- Does a carrier hold data?
abbrev pub is_point : (answer : Answer Content) → Bool
is_point (accepted guard) = false
is_point (accepted dc) = false
is_point (accepted pilot) = false
is_point (accepted (point slot subchannel index)) = true
is_point (refused number) = false

-- The tiles of line 9.
abbrev pub tiles : List ℕ
tiles = 1 ∷ 83 ∷ 166 ∷ 256 ∷ 324 ∷ 380 ∷ []

-- The numbers of the marks that are set, where the first mark has number k.
unfoldable pub set_from : (k : ℕ) (hits : List Bool) → List ℕ
set_from k [] = []
set_from k (true ∷ hits) = k ∷ set_from (suc k) hits
set_from k (false ∷ hits) = set_from (suc k) hits

-- The groups of line 5, and the indices of line 6.
abbrev pub groups : List ℕ
groups = 0 ∷ 1 ∷ 31 ∷ 32 ∷ []

abbrev pub indices : List ℕ
indices = 8 ∷ 24 ∷ 32 ∷ []

-- A zone of a plan.
abbrev pub zone : (mode cell slots mask : ℕ) → Zone
zone mode cell slots mask = record { mode = mode; cell = cell; slots = slots; mask = mask }

-- A plan at 2048 in bytes, where each value of a zone takes one: how many zones, 80 10 (hex) for 2048, then mode, cell, slots and mask of each.
abbrev pub bytes : (zones : List Zone) → List ℕ
bytes zones = length zones ∷ 0x80 ∷ 0x10 ∷ each (λ z. z.mode ∷ z.cell ∷ z.slots ∷ z.mask ∷ []) zones

-- What reading answers where a plan at 2048 of these zones is read.
abbrev pub whole : (zones : List Zone) → Answer Plan
whole zones = accepted (plan_with (length zones) 2048 zones)

-- Zones under cell 0: a first of mode 0 with one slot and every group lit, one of a mode with one slot, and a third.
abbrev pub third : (before mode slots mask : ℕ) → List Zone
third before mode slots mask = zone 0 0 1 0x3F ∷ zone before 0 1 0 ∷ zone mode 0 slots mask ∷ []

-- The mode is one of AMC's.
abbrev pub Amc : (mode : ℕ) → Type 0
Amc mode = (3 ≤ mode) × (mode ≤ 6)

-- Lists of 166 pilots: the first used numbers, 0 to 165; and every tenth used number from some first one on.
abbrev pub lowest : List ℕ
lowest = tabulate 166 (λ k. k)

abbrev pub tenths : (first : ℕ) → List ℕ
tenths first = tabulate 166 (λ k. first + 10 * k)

-- Under the lent pilots FUSC's cell 0 has index 46 of its subchannel 31 in slot 0 on a carrier of symbol 0, and the carrier has that point.
pub record Fusc (pilots : List ℕ) (carrier : ℤ) : Type 0 where
  pub is_placed : place_of (setup_lent 7 2048 0 pilots) 0 31 46 ≡ at 0 carrier
  pub is_located : locate_of (setup_lent 7 2048 0 pilots) 0 carrier ≡ accepted (point 0 31 46)

-- Three bursts: subchannels 0 and 1 in slots 0 to 3, 2 and 3 in all six, 0 and 1 in slots 4 and 5.
abbrev pub bursts : List ℕ
bursts = 0 ∷ 2 ∷ 0 ∷ 4 ∷ 2 ∷ 2 ∷ 0 ∷ 6 ∷ 0 ∷ 2 ∷ 4 ∷ 2 ∷ []

-- The first of the three bursts, and another.
abbrev pub corner : (subchannel subchannels slot slots : ℕ) → List ℕ
corner subchannel subchannels slot slots = 0 ∷ 2 ∷ 0 ∷ 4 ∷ subchannel ∷ subchannels ∷ slot ∷ slots ∷ []

-- Every list of bursts here is for one zone: mode 2 at 256, cell 0, six slots.
abbrev pub check : (numbers : List ℕ) → ℕ
check numbers = check_of 256 (zone 2 0 6 0) numbers

abbrev pub owner : (slot subchannel : ℕ) → OwnerAnswer
owner slot subchannel = owner_of 256 (zone 2 0 6 0) slot subchannel bursts

-- What asking for an owner answers: an owner, or 64, and how many were looked at; or a refusal.
abbrev pub owns : (owner looked : ℕ) → OwnerAnswer
owns owner looked = record { refusal = 0; owner = owner; looked = looked }

abbrev pub refusal : (number : ℕ) → OwnerAnswer
refusal number = record { refusal = number; owner = 64; looked = 0 }

-- What a carrier holds under any PUSC downlink cell.
pub record AnyCell (cell : ℕ) : Type 0 where
  pub data_in_symbol_0 : is_point (locate_of (setup_with 0 2048 cell) 0 (minus 840)) ≡ true
  pub pilot_in_symbol_1 : locate_of (setup_with 0 2048 cell) 1 (minus 840) ≡ accepted pilot
  pub guard_below : (symbol : ℕ) → symbol < 1024 → locate_of (setup_with 0 2048 cell) symbol (minus 841) ≡ accepted guard
  pub dc_in_the_middle : (symbol : ℕ) → symbol < 1024 → locate_of (setup_with 0 2048 cell) symbol (pos 0) ≡ accepted dc

pub record Known : Type 0 where
  -- Spread 1024, cell 0, subchannel 3, index 5: carrier 553 in slot 0, 552 in slot 1.
  pub line_1 : (place_of (setup_with 2 1024 0) 0 3 5 ≡ at 0 (pos 41)) × (place_of (setup_with 2 1024 0) 1 3 5 ≡ at 1 (pos 40))
  -- Spread 1024, cell 17, subchannel 0, index 0, slot 0: carrier 87.
  pub line_2 : place_of (setup_with 2 1024 17) 0 0 0 ≡ at 0 (minus 425)
  -- Meeting at 1024, cell 0 subchannel 6, cell 17 subchannel 0: 7.
  pub line_3 : (ofusc_of 1024 0 6 17 0).count ≡ 7
  -- Meeting at 1024, cell 0 subchannel 2, cell 244 subchannel 0: 8.
  pub line_4 : (ofusc_of 1024 0 2 244 0).count ≡ 8
  -- At 2048, cell 0 subchannel 2, cell 1010 subchannel 0: groups 0, 1, 31, 32.
  pub line_5 : set_from 0 (ofusc_of 2048 0 2 1010 0).hits ≡ groups
  -- Adjacent, cells 48 and 176: indices 8, 24, 32.
  pub line_6 : set_from 0 (amc_of 48 176).hits ≡ indices
  -- Down, cell 0, subchannel 1, slot 0: index 11 on symbol 0 carrier 1862, index 35 on symbol 1 carrier 1861.
  pub line_7 : (place_of (setup_with 0 2048 0) 0 1 11 ≡ at 0 (pos 838)) × (place_of (setup_with 0 2048 0) 0 1 35 ≡ at 1 (pos 837))
  -- Up, cell 0, subchannel 1, index 0, slot 0: symbol 1, carrier 377.
  pub line_8 : place_of (setup_with 1 2048 0) 0 1 0 ≡ at 1 (minus 647)
  -- Up, cell 0, subchannel 5: tiles 1, 83, 166, 256, 324, 380.
  pub line_9 : tabulate 6 (tile_of 0 5) ≡ tiles
  -- Down, any cell, carrier 184: data in symbol 0, pilot in symbol 1; 183 guard, 1024 DC.
  pub line_10 : (cell : ℕ) → cell < 32 → AnyCell cell
  -- The plan 01 80 10 00 00 0C (hex) is read; with 02 for its mode, refusal 14. Document 02, wish 5: it gains 3F (hex) for mode 0, else 00.
  pub line_11 : (plan_of (1 ∷ 0x80 ∷ 0x10 ∷ 0 ∷ 0 ∷ 0x0C ∷ 0x3F ∷ []) ≡ accepted (plan_with 1 2048 (zone 0 0 12 63 ∷ []))) × (plan_of (1 ∷ 0x80 ∷ 0x10 ∷ 2 ∷ 0 ∷ 0x0C ∷ 0 ∷ []) ≡ refused 14)
  -- Document 02, wish 1: its twin with cell 5, by wish 5 01 80 10 00 05 0C 3F (hex), is read; and so is the line with every cell of mode 0, 0 to 31.
  pub line_11_twin : (cell : ℕ) → cell < 32 → plan_of (1 ∷ 0x80 ∷ 0x10 ∷ 0 ∷ cell ∷ 0x0C ∷ 0x3F ∷ []) ≡ accepted (plan_with 1 2048 (zone 0 cell 12 63 ∷ []))
  -- Document 02, wish 5: line 11 with a mask out of its range. 3F (hex) in mode 2 meets 17, not 14; 00 and 40 in mode 0 meet it too; where there are no slots either, 13 comes before 17; without its mask the line ends within a zone.
  pub line_11_masks : (plan_of (1 ∷ 0x80 ∷ 0x10 ∷ 2 ∷ 0 ∷ 0x0C ∷ 0x3F ∷ []) ≡ refused 17) × (plan_of (1 ∷ 0x80 ∷ 0x10 ∷ 0 ∷ 0 ∷ 0x0C ∷ 0 ∷ []) ≡ refused 17)
      × (plan_of (1 ∷ 0x80 ∷ 0x10 ∷ 0 ∷ 0 ∷ 0x0C ∷ 0x40 ∷ []) ≡ refused 17) × (plan_of (1 ∷ 0x80 ∷ 0x10 ∷ 0 ∷ 0 ∷ 0 ∷ 0 ∷ []) ≡ refused 13)
      × (plan_of (1 ∷ 0x80 ∷ 0x10 ∷ 0 ∷ 0 ∷ 0x0C ∷ []) ≡ refused 10)
  -- Not starred: plans at 2048, worked out by hand. Document 02, wish 2: after a zone of any of modes 3 to 6 one of any of these is read, and one of mode 0 or 2, or of mode 7 (wish 8), meets 14.
  pub amc_after_amc : (m n : ℕ) → Amc m → Amc n → plan_of (bytes (third m n 1 0)) ≡ whole (third m n 1 0)
  pub others_after_amc : (m : ℕ) → Amc m → (plan_of (bytes (third m 0 1 0x3F)) ≡ refused 14) × (plan_of (bytes (third m 2 1 0)) ≡ refused 14) × (plan_of (bytes (third m 7 1 0)) ≡ refused 14)
  -- Document 02, wish 8: question 1 takes mode 7. It is read after mode 0, here with the last of its cells, and zones of modes 0, 2 and 3 are read after it; its cell 32 meets 3. It never opens a plan: as the first zone it meets 14, and at 1024, which is none of its sizes, 2.
  pub fusc_is_read : plan_of (bytes (zone 0 0 1 0x3F ∷ zone 7 31 1 0 ∷ [])) ≡ whole (zone 0 0 1 0x3F ∷ zone 7 31 1 0 ∷ [])
  pub others_after_fusc : (plan_of (bytes (third 7 0 1 0x3F)) ≡ whole (third 7 0 1 0x3F)) × (plan_of (bytes (third 7 2 1 0)) ≡ whole (third 7 2 1 0)) × (plan_of (bytes (third 7 3 1 0)) ≡ whole (third 7 3 1 0))
  pub fusc_refused : (plan_of (bytes (zone 0 0 1 0x3F ∷ zone 7 32 1 0 ∷ [])) ≡ refused 3) × (plan_of (bytes (zone 7 0 1 0 ∷ [])) ≡ refused 14) × (plan_of (1 ∷ 0x80 ∷ 0x08 ∷ 7 ∷ 0 ∷ 1 ∷ 0 ∷ []) ≡ refused 2)
  -- Document 02, wish 5: of a zone's faults 13 (no slots) is met before 17 (a mask out of its range), and 17 before 14 (its place). First a zone of mode 2 that opens the plan, then one of mode 0 after mode 3, each with one fault less from plan to plan.
  pub faults_in_order : (plan_of (bytes (zone 2 0 0 1 ∷ [])) ≡ refused 13) × (plan_of (bytes (zone 2 0 1 1 ∷ [])) ≡ refused 17) × (plan_of (bytes (zone 2 0 1 0 ∷ [])) ≡ refused 14)
      × (plan_of (bytes (third 3 0 0 0)) ≡ refused 13) × (plan_of (bytes (third 3 0 1 0)) ≡ refused 17) × (plan_of (bytes (third 3 0 1 0x3F)) ≡ refused 14)
  -- A mask other than 0 (here of one byte) meets 17 in every other mode.
  pub mask_outside_mode_0 : (mode mask : ℕ) → 2 ≤ mode → mode ≤ 7 → 0 < mask → mask < 128 → plan_of (bytes (zone 0 0 1 0x3F ∷ zone mode 0 1 mask ∷ [])) ≡ refused 17
  -- Not starred: points of AMC's shapes, worked out by hand from document 02, wish 2. Cell 0 has E = P, so its index 2 is at v = 33 and its index 41 at v = 47; cell 629 has its index 14 under the zero rule, at v = 12.
  pub amc_6x1 : place_of (setup_with 3 256 0) 0 3 2 ≡ at 0 (pos 93)
  pub amc_2x3 : (place_of (setup_with 4 256 0) 0 5 2 ≡ at 2 (minus 17)) × (place_of (setup_with 4 2048 629) 511 95 14 ≡ at 1533 (pos 861))
  pub amc_3x2 : place_of (setup_with 5 256 0) 1 7 2 ≡ at 3 (pos 93)
  pub amc_1x6 : (place_of (setup_with 6 512 0) 1 47 2 ≡ at 10 (pos 209)) × (place_of (setup_with 6 512 0) 511 0 41 ≡ at 3071 (minus 208))
  -- Document 02, wish 8: FUSC's cell 0, subchannel 31, index 46 gives data number 573.
  pub fusc_number : data_number 0 31 46 ≡ 573
  -- Not starred: that point under two lists of pilots, worked out by hand. All of the first 166 used numbers are below it: it is on used number 573 + 166 = 739, in column 173 + 739 = 912.
  -- Of 5, 15, 25 and so on, entry i is 10i + 5 and has 9i + 5 data numbers below it, which is at most 573 for the first 64: it is on used number 573 + 64 = 637, in column 810.
  pub fusc_lowest : Fusc lowest (minus 112)
  pub fusc_tenths : Fusc (tenths 5) (minus 214)
  -- Refused 20: a list that is lent in mode 2, none in mode 7, one that has 1702 for its last entry, and one that does not rise.
  pub lists_refused : (place_of (setup_lent 2 2048 0 lowest) 0 31 46 ≡ refused 20) × (place_of (setup_with 7 2048 0) 0 31 46 ≡ refused 20)
      × (place_of (setup_lent 7 2048 0 (tenths 52)) 0 31 46 ≡ refused 20) × (place_of (setup_lent 7 2048 0 (tabulate 166 (λ k. 5))) 0 31 46 ≡ refused 20)
  -- Not starred: bursts, worked out by hand from document 02, wish 7, in a zone of four subchannels by six slots. `bursts` fills it; another beside its first that has one slot and subchannel in common with the first, the corner of both, is refused 19;
  -- one that ends a subchannel past the zone, has no slots, or has sums that 32 bits would wrap, 18; so is one that overlaps the first and ends past the zone too, since 18 comes before 19.
  pub bursts_check : (check bursts ≡ 0) × (check (corner 1 2 3 2) ≡ 19) × (check (corner 3 2 3 1) ≡ 18) × (check (corner 3 1 3 0) ≡ 18) × (check (corner 4294967295 2 3 1) ≡ 18) × (check (corner 1 4 3 1) ≡ 18)
  pub bursts_owner : (owner 3 1 ≡ owns 0 1) × (owner 4 1 ≡ owns 2 3) × (owner 5 3 ≡ owns 1 2) × (owner 6 1 ≡ owns 64 3) × (owner 512 1 ≡ refusal 4) × (owner 5 4 ≡ refusal 5)
