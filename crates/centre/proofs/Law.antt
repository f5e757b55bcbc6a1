-- THE LAW OF THE CENTRE holds at every even size, where as many carriers lie below DC as from DC on.
use Rattle.base.proofs.Prelude.{◌≡◌, refl, sym, ap, ◌∙◌, Bool, true, false, ℕ, zero, suc, ◌+◌, ◌-◌, ◌*◌, ◌/◌, ◌≤◌, ◌<◌, arith, T, ltb, lt-ltb, le-ltb}
use Rattle.base.proofs.Prelude.{ltb-true, ltb-false}
use Rattle.base.proofs.Test.{cases, true_false}
use lib.{Dec.lt→ltb, IntN.{ℤ, pos, negsuc, neg_ℤ, nat_abs, ◌+ℤ◌, ◌-ℤ◌, +ℤ_invr, -ℤ-+ℤ_cancel, +ℤ-neg_ℤ_cancel}}
use lib.Signed.{◌<ℤ◌, lt_z, lt_z_yes, mag, non_neg, pos-nat_abs}
use mir.{Syntax.w32, Val.{SFits, to_z, of_z}, ValLaws.{to_z_pos, to_z-of_z}}
use Rattle.base.specs.Choice.{pick}
use Rattle.centre.specs.{Centre.{from_dc, in_range, on_row}, Law.CentreLaw}

-- from -h to h-1
abbrev around : ℕ → ℤ → Bool
around h z = pick (lt_z z (neg_ℤ (pos h))) false (lt_z z (pos h))

-- that is one bound
around_mag : (h : ℕ) (z : ℤ) → around h z ≡ true → mag z < h
around_mag h z e = by_sign h z (both (lt_z z (neg_ℤ (pos h))) (lt_z z (pos h)) e)
  where
    both : (a b : Bool) → pick a false b ≡ true → (a ≡ false) × (b ≡ true)
    both true b e = absurd (true_false (sym e))
    both false b e = (refl, e)

    by_sign : (h : ℕ) (z : ℤ) → (lt_z z (neg_ℤ (pos h)) ≡ false) × (lt_z z (pos h) ≡ true) → mag z < h
    by_sign h (pos n) q = ltb-true n h q.1
    by_sign zero (negsuc n) q = absurd (true_false q.0)
    by_sign (suc h) (negsuc n) q = omega (arith, ltb-false h n q.0)

mag_around : (h : ℕ) (z : ℤ) → mag z < h → around h z ≡ true
mag_around zero z l = absurd (omega arith)
mag_around (suc h) (pos n) l = lt-ltb n (suc h) l
mag_around (suc h) (negsuc n) l = rw (le-ltb h n (omega arith))

-- differences and sums are no larger than their parts
difference_mag : (limit k h : ℕ) → k ≤ limit → h ≤ limit → mag (pos k -ℤ pos h) ≤ limit
difference_mag limit k zero a b = omega arith
difference_mag limit k (suc h) a b = cases (ltb k (suc h)) (λ t. rw t (omega arith)) (λ t. rw t (omega arith))

pub sum_mag : (z : ℤ) (h : ℕ) → mag (z +ℤ pos h) ≤ mag z + h
sum_mag (pos n) h = omega arith
sum_mag (negsuc n) h = cases (ltb h (suc n)) (λ t. rw t (omega arith)) (λ t. rw t (omega arith))

-- a column below 2h is at most h away from column h, and nearer above it
column_mag : (k h : ℕ) → k < 2 * h → mag (pos k -ℤ pos h) < h
column_mag k zero l = absurd (omega arith)
column_mag k (suc h) l =
    cases (ltb k (suc h)) (λ t. rw t (omega (arith, ltb-true k (suc h) t))) (λ t. rw t (omega arith))

-- a number from -h on is not negative together with h
pub sum_non_neg : (z : ℤ) (h : ℕ) → mag z < h → T (non_neg (z +ℤ pos h)) × (nat_abs (z +ℤ pos h) < 2 * h)
sum_non_neg (pos n) h l = (tt, omega arith)
sum_non_neg (negsuc n) h l = rw (le-ltb h (suc n) (omega arith)) (tt, omega arith)

-- a larger number, less h, is larger
difference_rises : (h j k : ℕ) → j < k → (pos j -ℤ pos h) <ℤ (pos k -ℤ pos h)
difference_rises zero j k l = lt_z_yes (lt→ltb (j + 0) (k + 0) (omega arith))
difference_rises (suc h) j k l =
    cases (ltb j (suc h))
    (λ t. cases (ltb k (suc h))
    (λ u. let m = ltb-true k (suc h) u in rw (t, u) (lt_z_yes (lt→ltb (suc h - suc k) (suc h - suc j) (omega arith))))
    (λ u. rw (t, u) (lt_z_yes tt)))
    (λ t. let m = ltb-false j (suc h) t in rw (t, le-ltb k (suc h) (omega arith)) (lt_z_yes (lt→ltb (j - suc h) (k - suc h) (omega arith))))

-- the machine's difference of two numbers, none of them negative, is their difference
module _ {a b : ℕ} (la : a ≤ 2147483647) (lb : b ≤ 2147483647) where
  same : to_z w32 a -ℤ to_z w32 b ≡ pos a -ℤ pos b
  same = rw (to_z_pos w32 a (omega arith), to_z_pos w32 b (omega arith))

  pub difference_fits : SFits w32 (to_z w32 a -ℤ to_z w32 b)
  difference_fits = rw same (record { sfits = omega (arith, difference_mag 2147483647 a b la lb) })

  pub difference_is : to_z w32 (of_z w32 (to_z w32 a -ℤ to_z w32 b)) ≡ pos a -ℤ pos b
  difference_is = to_z-of_z w32 _ difference_fits ∙ same

  -- also where the first is a literal
  pub literal_fits : SFits w32 (pos a -ℤ to_z w32 b)
  literal_fits = rw (to_z_pos w32 a (omega arith)) at difference_fits

pub centre_law : (size : ℕ) → 2 * (size / 2) ≡ size → CentreLaw size
unfolding in_range from_dc on_row
centre_law size even =
    let h = size / 2 in
    record {
      middle = +ℤ_invr (pos h);
      rising = difference_rises h;
      in-range = λ k l. mag_around h (pos k -ℤ pos h) (column_mag k h (omega arith));
      back = λ k. ap nat_abs (-ℤ-+ℤ_cancel (pos k) (pos h));
      column_lt = λ z e. omega (arith, (sum_non_neg z h (around_mag h z e)).1);
      forth = λ z e. ap (λ (x : ℤ). x -ℤ pos h) (pos-nat_abs (z +ℤ pos h) (sum_non_neg z h (around_mag h z e)).0) ∙ +ℤ-neg_ℤ_cancel z (pos h);
    }

pub in_range_mag : (size : ℕ) (z : ℤ) → in_range size z ≡ true → mag z < size / 2
unfolding in_range
in_range_mag size z e = around_mag (size / 2) z e

-- so different columns have different carriers
pub one_column : {size : ℕ} → CentreLaw size → (j k : ℕ) → from_dc size j ≡ from_dc size k → j ≡ k
one_column {size} l j k e = sym (l.back j) ∙ ap (on_row size) e ∙ l.back k

-- what the machine holds of a column's carrier is that carrier
pub number_read : (size column : ℕ) → (size ≤ 65536) × (column < size) → to_z w32 (of_z w32 (from_dc size column)) ≡ from_dc size column
unfolding from_dc
number_read size column few = to_z-of_z w32 _ (record { sfits = omega (arith, difference_mag 65536 column (size / 2) (omega arith) (omega arith)) })
