-- What most proofs name of the logic's libraries, in one place.
pub use mathlib.Core.Path.{◌≡◌, refl, sym, ap, ap₂, ◌∙◌, subst, subst⁻¹}
pub use mathlib.Core.Bool.{Bool, true, false}
pub use mathlib.Core.List.{List, [], ◌∷◌, ◌++◌}
pub use Prim.Native.Nat.{ℕ, zero, suc, ◌+◌, ◌-◌, ◌*◌, ◌/◌, ◌%◌, ◌<◌, ◌≤◌}
pub use native.Mathlib.Nat.{mod-lt, div-add-mod', div-lt_iff_lt-mul, mul-le-mul}
pub use native.Mathlib.Omega.{arith}
pub use lib.Dec.{eqb, ltb, leb, lit<, T, eqb→eq, ltb→lt}
pub use lib.ListN.{length, get_or, drop, take, set, replicate, length-set, length-replicate}
pub use lib.Arith.{digits_lt, digits_mod, digits_div}
pub use borrow.Author.Tests.{eq-eqb, ne_eqb, eqb-true, eqb-false, lt-ltb, le-ltb, ltb-true, ltb-false, not-false, not-true}
pub use borrow.Author.Rules.{rules}
