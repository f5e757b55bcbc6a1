-- Types of numbers from 0 on.
use Rattle.std.specs.Prelude.{◌≡◌, refl, Bool, true, false, cond, ℕ, ltb}
use Rattle.std.specs.Ordering.{is_lt, nat_cmp}
use Rattle.std.specs.declared.cmp.Ordering.TheVariants.{Less, Equal, Greater}

less : (t u : Bool) → is_lt (cond t Less (cond u Equal Greater)) ≡ t
less true u = refl
less false true = refl
less false false = refl

-- the library's order of numbers, as the test of one below another
pub in_order : (a b : ℕ) → is_lt (nat_cmp a b) ≡ ltb a b
in_order a b = less _ _
