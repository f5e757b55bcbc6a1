-- v by the entries of P.
use Rattle.base.proofs.Prelude.{◌≡◌, refl, ap, subst, ℕ, ◌+◌, ◌-◌, ◌*◌, ◌/◌, ◌%◌, ◌<◌, arith}
use native.Mathlib.Nat.{pos_of_ne-zero}
use Rattle.base.specs.Steps.{entry}
use Rattle.amc.specs.{Table.sequence_digits, Map.{element_of, traffic}, Model.{sum_place, sequence_place}}
use Rattle.amc.proofs.{Tables.powers, Law.traffic_lt}

-- index j is at place (j+per) mod 48 of P
pub traffic_at : (cell j : ℕ) → sequence_place cell ((j + cell % 48) % 48) ≡ traffic cell j
unfolding traffic element_of sequence_place sum_place
traffic_at cell j = refl

pub sequence_place_lt : (cell i : ℕ) → cell < 2352 → i < 48 → sequence_place cell i < 48
sequence_place_lt cell i hc hi =
    let j = (i + (48 - cell % 48)) % 48 in
    let e : (j + cell % 48) % 48 ≡ i = omega arith in
    subst (λ (k : ℕ). sequence_place cell k < 48) e (rw (traffic_at cell j) (traffic_lt cell hc j))

-- the digits of P's entries
pub entry_digits : (i : ℕ) → i < 48 → let x = entry sequence_digits i in (x / 16 < 7) × (x % 16 < 7) × (0 < x)
entry_digits i h =
    let p = powers i h in
    let high = ap (λ e. e.high) p.printed_is in
    let low = ap (λ e. e.low) p.printed_is in
    (omega (arith, high, p.proper.high_lt), omega (arith, low, p.proper.low_lt), pos_of_ne-zero (λ e. p.nonzero (omega (arith, high, low, e))))

-- no entry of P is zero, so a sum that is zero has an offset that is not
pub offset_above : (h l x : ℕ) → h < 7 → l < 7 → x / 16 < 7 → x % 16 < 7 → 0 < x → (x / 16 + h) % 7 * 7 + (x % 16 + l) % 7 ≡ 0 → 0 < h * 7 + l
offset_above h l x hh hl xh xl above e = omega arith
