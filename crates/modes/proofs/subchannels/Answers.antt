-- `modes::subchannels` meets its contract.
use Rattle.base.proofs.Prelude.{mul-le-mul, arith, rules}
use Rattle.amc.proofs.Parts.{symbols_few}
use Rattle.modes.specs.Mode.{width_of, subchannels_of}
use Rattle.modes.proofs.Named.{by_name, shape_named, is_shape}
use Rattle.modes.proofs.subchannels.Goals as goal

-- N is below 2^58, whatever the size
pub overflow_mul-result : goal.overflow_mul-result
unfolding width_of
overflow_mul-result c =
    omega (
      arith,
      mul-le-mul {n₁ = c.width-in-Ok-Amc.result} {m₁ = c.in-Ok-Amc.shape.symbols} {n₂ = 288230376151711744} {m₂ = 6}
          (omega arith) (symbols_few _ (is_shape _ _ c.try_from.ensures _ c.in-Ok-Amc.is c.in-Ok-Amc.field-0-is)),
    )

pub returns-in-Ok-PuscDl : goal.returns-in-Ok-PuscDl
unfolding subchannels_of
returns-in-Ok-PuscDl c = search (by_name, rules)

pub returns-in-Ok-PuscUl : goal.returns-in-Ok-PuscUl
unfolding subchannels_of
returns-in-Ok-PuscUl c = search (by_name, rules)

pub returns-in-Ok-Ofusc : goal.returns-in-Ok-Ofusc
unfolding subchannels_of
returns-in-Ok-Ofusc c = search (by_name, rules)

pub returns-in-Ok-Amc : goal.returns-in-Ok-Amc
unfolding subchannels_of
returns-in-Ok-Amc c = rw (c.width-in-Ok-Amc.ensures, shape_named _ _ c.try_from.ensures _ c.in-Ok-Amc.is c.in-Ok-Amc.field-0-is) (search (by_name, rules))

pub returns-in-Ok-Fusc : goal.returns-in-Ok-Fusc
unfolding subchannels_of
returns-in-Ok-Fusc c = search (by_name, rules)

pub returns-in-Err : goal.returns-in-Err
unfolding subchannels_of
returns-in-Err c = search (by_name, rules)
