-- A row of carriers by the places of P.
use Rattle.base.proofs.Prelude.{Bool, ◌≡◌, sym, ap, ap₂, ◌∙◌, ℕ, ◌+◌, ◌-◌, ◌*◌, ◌/◌, ◌%◌, ◌<◌, ◌≤◌, mod-lt, mul-le-mul, div-add-mod'}
use Rattle.base.proofs.Prelude.{div-lt_iff_lt-mul, arith, digits_lt, leb}
use Rattle.base.proofs.{Test.cases, LeaveOut.{skip_lt, skip_step}, Tabulate.{written_none, written_next, written_starts}}
use native.Mathlib.Nat.{mul_assoc, mul_left_comm, mul_right_comm, mul-sub, mul-le-mul_left, add-mul, mul-add-mod_self_right, mul-div_left}
use mir.Val.{bool_byte}
use borrow.Author.Tests.{leb-true, leb-false, le-leb, lt-leb}
use Rattle.base.specs.{Choice.pick, Steps.skip}
use Rattle.carriers.specs.{Band.{bin_band, carrier_of}, Bin.{bin_pilot_place, used_of_data, bin_spot}}
use Rattle.amc.specs.{declared.Shape.Shape, Map.{traffic, traffic_number}, Model.{IsShape, sequence_place}}
use Rattle.amc_rows.specs.Model.{EvenWidth, traffic_carrier, subchannel_step, sequence_carrier}
use Rattle.amc.proofs.{Parts.{bins_pos, bins_few, symbols_six, quotient_few}, Law.{bin_of, place_of, all_bins}}
use Rattle.amc.proofs.Sequence.{traffic_at, sequence_place_lt}

-- index j is at place (j+per) mod 48 of P
pub carrier-at : (shape : Shape) (n first cell a j : ℕ) → sequence_carrier shape n first cell a ((j + cell % 48) % 48) ≡ traffic_carrier shape n first a (traffic cell j)
unfolding sequence_carrier
carrier-at shape n first cell a j = ap (traffic_carrier shape n first a) (traffic_at cell j)

-- the pilots of a symbol go by its number modulo 3
same_pilots : (first p o : ℕ) → p ≡ first % 3 → bin_pilot_place (p + o) ≡ bin_pilot_place (first + o)
unfolding bin_pilot_place
same_pilots first p o e = omega arith

same_phase : (slot t : ℕ) → slot % 3 * t % 3 ≡ slot * t % 3
same_phase slot t =
    sym (mul-add-mod_self_right (slot / 3 * t) 3 (slot % 3 * t))
    ∙ ap (λ (x : ℕ). x % 3) (omega (arith, mul_right_comm (slot / 3) t 3) ∙ sym (add-mul (slot / 3 * 3) (slot % 3) t) ∙ ap (λ (x : ℕ). x * t) (div-add-mod' slot 3))

-- the rows before a symbol of the slot
pub rows_few : (o x : ℕ) → o < 6 → x ≤ 2048 → o * x ≤ 10240
rows_few o x h l = mul-le-mul {n₁ = o} {m₁ = x} {n₂ = 5} {m₂ = 2048} (omega arith) l

module _ (shape : Shape) (six : IsShape shape) where
  abbrev b : ℕ
  b = shape.bins

  -- a traffic place of subchannel 0: its symbol, its used number
  abbrev offset : ℕ → ℕ
  offset v = v / 8 / b

  abbrev start : ℕ → ℕ → ℕ
  start y v = v / 8 % b * 9 + skip (bin_pilot_place y) (v % 8)

  start_few : (y v : ℕ) → start y v + 9 ≤ 9 * b + 8
  start_few y v = omega (arith, mod-lt (v / 8) (bins_pos shape six), skip_lt (bin_pilot_place y) (v % 8) {n = 8} (omega arith))

  -- in subchannel a it is as many used numbers on as the bins before have
  used_is : (first a v : ℕ) → (bin_spot first (traffic_number shape a v)).used ≡ 9 * (a * b) + start (first + (traffic_number shape a v).offset) v
  unfolding used_of_data
  used_is first a v =
      let p = bin_pilot_place (first + (traffic_number shape a v).offset) in
      ap₂ (λ (k r : ℕ). k * 9 + skip p r) (bin_of shape a v) (place_of shape a v) ∙ omega arith

  module _ (n : ℕ) (wide : EvenWidth n) where
    -- DC lies between two subchannels
    abbrev c : ℕ
    c = n / 2 * shape.symbols

    bins_below : c * b ≡ 3 * n
    bins_below = mul_assoc (n / 2) shape.symbols b ∙ ap (λ (x : ℕ). n / 2 * x) (symbols_six shape six) ∙ omega arith

    before_dc : (a u : ℕ) → u < 9 * b → 9 * (a * b) < 27 * n → 9 * (a * b) + u < 27 * n
    before_dc a u h l =
        let below : a * b / b < c = (div-lt_iff_lt-mul (bins_pos shape six)).1 (rw bins_below (omega arith)) in
        let a_lt : a < c = rw (mul-div_left a (bins_pos shape six)) at below in
        omega (arith, bins_below, digits_lt {q = a} {m = c} {r = b - 1} {c = b} a_lt (omega (arith, bins_pos shape six)))

    past_dc : (a u : ℕ) → u < 9 * b → leb (27 * n) (9 * (a * b) + u) ≡ leb (27 * n) (9 * (a * b))
    past_dc a u h =
        cases (leb (27 * n) (9 * (a * b)))
        (λ e. let l = leb-true (27 * n) (9 * (a * b)) e in le-leb (27 * n) (9 * (a * b) + u) (omega arith) ∙ sym e)
        (λ e. lt-leb (27 * n) (9 * (a * b) + u) (before_dc a u h (leb-false (27 * n) (9 * (a * b)) e)) ∙ sym e)

    -- the carrier as a sum: of the traffic place's in subchannel 0 and of the subchannel's step
    carrier_is : (first a v : ℕ) → traffic_carrier shape n first a v ≡ offset v * (64 * n) + 5 * n + start (first + offset v) v + subchannel_step shape n a
    unfolding traffic_carrier traffic_number carrier_of skip subchannel_step
    carrier_is first a v =
        let u = start (first + offset v) v in
        let few : u < 9 * b = omega (arith, start_few (first + offset v) v) in
        let nine : a * b * 9 ≡ 9 * (a * b) = omega arith in
        let step : skip (27 * n) (9 * (a * b) + u) ≡ a * b * 9 + u + pick (leb (27 * n) (a * b * 9)) 1 0 =
        ap (λ (t : Bool). 9 * (a * b) + u + pick t 1 0) (past_dc a u few) ∙ rw nine in
        ap (λ (x : ℕ). offset v * (64 * n) + carrier_of (bin_band n) x) (used_is first a v) ∙ omega (arith, step)

    -- subchannel 0 lies below DC
    start_is : (first v : ℕ) → traffic_carrier shape n first 0 v ≡ offset v * (64 * n) + 5 * n + start (first + offset v) v
    unfolding subchannel_step
    start_is first v =
        let below : ◌≡◌ {A = ℕ} (pick (leb (27 * n) (0 * b * 9)) 1 0) 0 = rw (lt-leb (27 * n) (0 * b * 9) (omega arith)) in
        carrier_is first 0 v ∙ omega (arith, below)

    -- as the code adds it up
    pub first_is : (first v o : ℕ) → o ≡ offset v → o * (64 * n - 9 * b) + 5 * n + v + v / 8 + bool_byte (leb (3 * ((first + o) % 3) + 1) (v % 8)) ≡ traffic_carrier shape n first 0 v
    unfolding bin_pilot_place
    first_is first v o e =
        let apart = mul-sub o (64 * n) (9 * b) in
        let nine = mul_left_comm o 9 b in
        let fits = mul-le-mul_left {m = 9 * b} {n = 64 * n} o (omega (arith, bins_few shape six)) in
        let bins : o * b + v / 8 % b ≡ v / 8 = ap (λ (k : ℕ). k * b + v / 8 % b) e ∙ div-add-mod' (v / 8) b in
        let there = start_is first v ∙ ap (λ (k : ℕ). k * (64 * n) + 5 * n + start (first + k) v) (sym e) in
        omega (arith, apart, nine, fits, bins, skip_step (bin_pilot_place (first + o)) (v % 8), there)

    -- an entry of the table, whose slot goes by its first symbol modulo 3
    pub table_entry : (slot t cell i p v : ℕ) → p ≡ slot % 3 * t % 3 → v ≡ sequence_place cell i → traffic_carrier shape n p 0 v ≡ sequence_carrier shape n (slot * t) cell 0 i
    unfolding sequence_carrier
    table_entry slot t cell i p v e f =
        let pilot = same_pilots (slot * t) p (offset v) (e ∙ same_phase slot t) in
        start_is p v ∙ ap (λ (y : ℕ). offset v * (64 * n) + 5 * n + (v / 8 % b * 9 + skip y (v % 8))) pilot ∙ sym (start_is (slot * t) v)
        ∙ ap (traffic_carrier shape n (slot * t) 0) f

    -- and one of a row
    pub row_entry : (first cell a i x : ℕ) → x ≡ sequence_carrier shape n first cell 0 i → x + subchannel_step shape n a ≡ sequence_carrier shape n first cell a i
    unfolding sequence_carrier
    row_entry first cell a i x e = omega (arith, e, start_is first (sequence_place cell i), carrier_is first a (sequence_place cell i))

    -- their numbers are small
    pub entry_few : (first cell i x : ℕ) → cell < 2352 → i < 48 → x ≡ sequence_carrier shape n first cell 0 i → x < 12288
    unfolding sequence_carrier
    entry_few first cell i x h l e =
        let v = sequence_place cell i in
        let v-lt : v < 48 = sequence_place_lt cell i h l in
        omega (arith, e, start_is first v, rows_few (offset v) (64 * n) (quotient_few shape six (v / 8) (omega arith)) (omega arith), start_few (first + offset v) v, bins_few shape six)

    pub used_few : (a : ℕ) → a < n * shape.symbols → a * b * 9 < 1728
    used_few a h = omega (arith, all_bins shape six n, digits_lt {q = a} {m = n * shape.symbols} {r = 0} {c = b} h (bins_pos shape six))

    pub step_few : (a : ℕ) → a < n * shape.symbols → subchannel_step shape n a < 1729
    unfolding subchannel_step
    step_few a h = cases (leb (27 * n) (a * b * 9)) (λ e. rw e (omega (arith, used_few a h))) (λ e. rw e (omega (arith, used_few a h)))

-- a loop that writes a row from its first entry on
pub ruleset written = (written_none, written_next, written_starts)
