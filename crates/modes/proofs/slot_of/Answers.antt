-- `modes::slot_of` meets its contract.
use Rattle.base.proofs.Prelude.{refl, arith}
use Rattle.modes.proofs.ByMode.{six_symbols, by_symbols}
use Rattle.modes.proofs.slot_of.Goals as goal

pub returns-in_default : goal.returns-in_default
returns-in_default c =
    let e = c.symbols.ensures in
    by_symbols _ _ _ 6 refl (six_symbols c.requires (λ z. omega (arith, e)) (λ z. omega (arith, e)) (λ z. omega (arith, e)))
