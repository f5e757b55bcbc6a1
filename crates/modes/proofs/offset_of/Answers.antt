-- `modes::offset_of` meets its contract.
use Rattle.base.proofs.Prelude.{sym, arith}
use native.Mathlib.Nat.{div-mul-le_self, mod-eq-sub-div-mul}
use Rattle.modes.proofs.offset_of.Goals as goal

pub overflow_sub-result : goal.overflow_sub-result
overflow_sub-result c = rw (c.slot_of.ensures, c.symbols.ensures) (div-mul-le_self _ _)

pub overflow_mul-result : goal.overflow_mul-result
overflow_mul-result c = omega (arith, overflow_sub-result c)

pub returns : goal.returns
returns c = rw (c.slot_of.ensures, c.symbols.ensures) (sym (mod-eq-sub-div-mul _ _))
