-- The plans that documents 01 and 02 name, and others that show which question comes first.
use Rattle.base.proofs.Prelude.{◌≡◌, refl, [], ◌∷◌, ℕ, ◌<◌, ◌≤◌, arith, lt-ltb, ne_eqb}
use Rattle.base.specs.{Choice.is_up_to, Answer.{Answer, accepted, refused}}
use Rattle.modes.specs.{Question.{is_size, is_cell, is_four_sizes}, Mode.{cells_of, width_of}}
use Rattle.mask.specs.Mask.{is_mask}
use Rattle.value.specs.Value.{value_in}
use Rattle.zone.specs.{declared.Zone.Zone, Zone.{is_zone_mode, is_opening, is_following}}
use Rattle.zone.proofs.Points.{by-mode, by_amc}
use Rattle.plan.specs.{declared.Plan.Plan, Plan.in_places}
use Rattle.plan_read.specs.Read.{plan_with, plan_of, read_zones, read_values}

abbrev zone : ℕ → ℕ → ℕ → ℕ → Zone
zone m c n k = record { mode = m; cell = c; slots = n; mask = k }

-- a plan of two zones at 1024
pub two_zones : plan_of (2 ∷ 0x80 ∷ 0x08 ∷ 2 ∷ 0x11 ∷ 3 ∷ 0 ∷ 3 ∷ 0xB0 ∷ 1 ∷ 1 ∷ 0 ∷ []) ≡ accepted (plan_with 2 1024 (zone 2 17 3 0 ∷ zone 3 176 1 0 ∷ []))
unfolding plan_of read_zones read_values value_in is_zone_mode is_up_to is_mask is_opening is_following in_places is_size is_cell is_four_sizes cells_of width_of
two_zones = refl

-- Document 02: the starred plan line of document 01's known points with any first cell (wish 1) and the mask 3F (wish 5). With 02 for its mode and 00 for its mask it is the first refusal below.
pub any_first_cell : (cell : ℕ) → cell < 32 → plan_of (1 ∷ 0x80 ∷ 0x10 ∷ 0 ∷ cell ∷ 0x0C ∷ 0x3F ∷ []) ≡ accepted (plan_with 1 2048 (zone 0 cell 12 63 ∷ []))
unfolding plan_of read_zones read_values value_in is_zone_mode is_up_to is_mask is_opening is_following in_places is_size is_cell is_four_sizes cells_of width_of
any_first_cell cell h = rw (lt-ltb cell 128 (omega arith), lt-ltb cell 32 h)

pub first_refusals :
    (plan_of (1 ∷ 0x80 ∷ 0x10 ∷ 2 ∷ 0 ∷ 0x0C ∷ 0 ∷ []) ≡ refused 14)
    × (plan_of (2 ∷ 0x80 ∷ 0x10 ∷ 2 ∷ 0 ∷ 1 ∷ 0 ∷ []) ≡ refused 14)
    × (plan_of (0x81 ∷ 0 ∷ []) ≡ refused 11)
    × (plan_of [] ≡ refused 10)
    × (plan_of (0x80 ∷ 0x80 ∷ []) ≡ refused 10)
    × (plan_of (0x80 ∷ 0x80 ∷ 0x80 ∷ []) ≡ refused 11)
    × (plan_of (0 ∷ 0x80 ∷ []) ≡ refused 12)
    × (plan_of (1 ∷ 0 ∷ 0x80 ∷ []) ≡ refused 2)
    × (plan_of (1 ∷ 0x80 ∷ 0x08 ∷ 1 ∷ 0 ∷ 1 ∷ []) ≡ refused 10)
unfolding plan_of read_zones read_values value_in is_zone_mode is_up_to is_mask is_opening is_following is_size is_cell is_four_sizes cells_of width_of
first_refusals = (refl, refl, refl, refl, refl, refl, refl, refl, refl)

-- a plan at 2048 of three zones under cell 0: one of mode 0, one of another mode, and a third
abbrev third : (before mode slots mask : ℕ) → Answer Plan
third before mode slots mask = plan_of (3 ∷ 0x80 ∷ 0x10 ∷ 0 ∷ 0 ∷ 1 ∷ 0x3F ∷ before ∷ 0 ∷ 1 ∷ 0 ∷ mode ∷ 0 ∷ slots ∷ mask ∷ [])

-- Document 02, wish 2: after one of AMC's modes any of these is read,
pub amc_after_amc : (m n : ℕ) → 3 ≤ m → m ≤ 6 → 3 ≤ n → n ≤ 6 → third m n 1 0 ≡ accepted (plan_with 3 2048 (zone 0 0 1 63 ∷ zone m 0 1 0 ∷ zone n 0 1 0 ∷ []))
unfolding plan_of read_zones read_values value_in is_zone_mode is_up_to is_mask is_opening is_following in_places is_size is_cell is_four_sizes cells_of width_of
amc_after_amc m n h l =
    by_amc (λ m. (n : ℕ) → 3 ≤ n → n ≤ 6 → third m n 1 0 ≡ accepted (plan_with 3 2048 (zone 0 0 1 63 ∷ zone m 0 1 0 ∷ zone n 0 1 0 ∷ [])))
    (by_amc _ refl refl refl refl) (by_amc _ refl refl refl refl) (by_amc _ refl refl refl refl) (by_amc _ refl refl refl refl) m h l n

-- and modes 0, 2 and 7 meet 14.
pub others_after_amc : (m : ℕ) → 3 ≤ m → m ≤ 6 → (third m 0 1 63 ≡ refused 14) × (third m 2 1 0 ≡ refused 14) × (third m 7 1 0 ≡ refused 14)
unfolding plan_of read_zones read_values value_in is_zone_mode is_up_to is_mask is_opening is_following is_size is_cell is_four_sizes cells_of width_of
others_after_amc =
    by_amc (λ m. (third m 0 1 63 ≡ refused 14) × (third m 2 1 0 ≡ refused 14) × (third m 7 1 0 ≡ refused 14)) (refl, refl, refl) (refl, refl, refl) (refl, refl, refl) (refl, refl, refl)

-- Document 02, wish 8: mode 7 is read after mode 0 with the last of its cells, and modes 0, 2 and 3 after it; a cell past the last meets 3. As the first zone it meets 14, at 1024 it meets 2.
pub fusc_in_plans :
    (plan_of (2 ∷ 0x80 ∷ 0x10 ∷ 0 ∷ 0 ∷ 1 ∷ 0x3F ∷ 7 ∷ 31 ∷ 1 ∷ 0 ∷ []) ≡ accepted (plan_with 2 2048 (zone 0 0 1 63 ∷ zone 7 31 1 0 ∷ [])))
    × (third 7 0 1 63 ≡ accepted (plan_with 3 2048 (zone 0 0 1 63 ∷ zone 7 0 1 0 ∷ zone 0 0 1 63 ∷ [])))
    × (third 7 2 1 0 ≡ accepted (plan_with 3 2048 (zone 0 0 1 63 ∷ zone 7 0 1 0 ∷ zone 2 0 1 0 ∷ [])))
    × (third 7 3 1 0 ≡ accepted (plan_with 3 2048 (zone 0 0 1 63 ∷ zone 7 0 1 0 ∷ zone 3 0 1 0 ∷ [])))
    × (plan_of (2 ∷ 0x80 ∷ 0x10 ∷ 0 ∷ 0 ∷ 1 ∷ 0x3F ∷ 7 ∷ 32 ∷ 1 ∷ 0 ∷ []) ≡ refused 3)
    × (plan_of (1 ∷ 0x80 ∷ 0x10 ∷ 7 ∷ 0 ∷ 1 ∷ 0 ∷ []) ≡ refused 14)
    × (plan_of (1 ∷ 0x80 ∷ 0x08 ∷ 7 ∷ 0 ∷ 1 ∷ 0 ∷ []) ≡ refused 2)
unfolding plan_of read_zones read_values value_in is_zone_mode is_up_to is_mask is_opening is_following in_places is_size is_cell is_four_sizes cells_of width_of
fusc_in_plans = (refl, refl, refl, refl, refl, refl, refl)

-- Document 02, wish 5: 17 after 13. A zone out of place, of mode 2 that opens the plan and of mode 0 after AMC, with no slots or one, and with a mask out of its range or in it.
pub faults_in_order :
    (plan_of (1 ∷ 0x80 ∷ 0x10 ∷ 2 ∷ 0 ∷ 0 ∷ 1 ∷ []) ≡ refused 13)
    × (plan_of (1 ∷ 0x80 ∷ 0x10 ∷ 2 ∷ 0 ∷ 1 ∷ 1 ∷ []) ≡ refused 17)
    × (plan_of (1 ∷ 0x80 ∷ 0x10 ∷ 2 ∷ 0 ∷ 1 ∷ 0 ∷ []) ≡ refused 14)
    × (third 3 0 0 0 ≡ refused 13)
    × (third 3 0 1 0 ≡ refused 17)
    × (third 3 0 1 63 ≡ refused 14)
unfolding plan_of read_zones read_values value_in is_zone_mode is_up_to is_mask is_opening is_following is_size is_cell is_four_sizes cells_of width_of
faults_in_order = (refl, refl, refl, refl, refl, refl)

-- A mask other than 0 outside mode 0 meets 17.
pub mask_outside : (mode mask : ℕ) → 2 ≤ mode → mode ≤ 7 → 0 < mask → mask < 128 → plan_of (2 ∷ 0x80 ∷ 0x10 ∷ 0 ∷ 0 ∷ 1 ∷ 0x3F ∷ mode ∷ 0 ∷ 1 ∷ mask ∷ []) ≡ refused 17
unfolding plan_of read_zones read_values value_in is_zone_mode is_up_to is_mask is_opening is_following is_size is_cell is_four_sizes cells_of width_of
mask_outside mode mask h l some small =
    let byte = lt-ltb mask 128 small in
    let not-0 = ne_eqb mask 0 (λ e. omega arith) in
    by-mode (λ m. plan_of (2 ∷ 0x80 ∷ 0x10 ∷ 0 ∷ 0 ∷ 1 ∷ 0x3F ∷ m ∷ 0 ∷ 1 ∷ mask ∷ []) ≡ refused 17)
    (rw (byte, not-0)) (rw (byte, not-0)) (rw (byte, not-0)) (rw (byte, not-0)) (rw (byte, not-0)) (rw (byte, not-0)) mode h l

-- Document 02, wish 5: the starred plan line with a mask out of its range. 3F in mode 2 meets 17, not 14; 00 and 40 in mode 0 meet it too; where there are no slots either, 13 comes before 17; without its mask the line ends within a zone.
pub masks_refused :
    (plan_of (1 ∷ 0x80 ∷ 0x10 ∷ 2 ∷ 0 ∷ 0x0C ∷ 0x3F ∷ []) ≡ refused 17)
    × (plan_of (1 ∷ 0x80 ∷ 0x10 ∷ 0 ∷ 0 ∷ 0x0C ∷ 0 ∷ []) ≡ refused 17)
    × (plan_of (1 ∷ 0x80 ∷ 0x10 ∷ 0 ∷ 0 ∷ 0x0C ∷ 0x40 ∷ []) ≡ refused 17)
    × (plan_of (1 ∷ 0x80 ∷ 0x10 ∷ 0 ∷ 0 ∷ 0 ∷ 0 ∷ []) ≡ refused 13)
    × (plan_of (1 ∷ 0x80 ∷ 0x10 ∷ 0 ∷ 0 ∷ 0x0C ∷ []) ≡ refused 10)
unfolding plan_of read_zones read_values value_in is_zone_mode is_up_to is_mask is_opening is_following is_size is_cell is_four_sizes cells_of width_of
masks_refused = (refl, refl, refl, refl, refl)
