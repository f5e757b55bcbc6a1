-- `lengths::lit_points_length` meets its contract.
use Rattle.base.proofs.Prelude.{refl, arith}
use Rattle.refusal.proofs.Asked.{number_ne0}
use Rattle.modes.specs.Setup.{setup_with}
use Rattle.mask.proofs.Law.{lit_few}
use Rattle.lengths.proofs.{Length.{no_lit_length, lit_length}, Refusal.{mask_ranged, mask_now_few}}
use Rattle.lengths.proofs.lit_points_length.Goals as goal

pub overflow_mul-result : goal.overflow_mul-result
overflow_mul-result c = omega (arith, lit_few (mask_ranged (setup_with c.args.mode c.args.size 0) _ 0 c.in-Ok.ensures refl) _ _ c.lit_subchannels.ensures)

pub returns-in-Err : goal.returns-in-Err
returns-in-Err c = no_lit_length _ _ _ _ c.in-Err.ensures (number_ne0 _)

pub lit_subchannels-requires : goal.lit_subchannels-requires
lit_subchannels-requires c = mask_now_few (setup_with c.args.mode c.args.size 0) _ 0 c.in-Ok.ensures refl

pub returns-in-Ok : goal.returns-in-Ok
returns-in-Ok c = lit_length _ _ _ 0 c.in-Ok.ensures refl _ c.lit_subchannels.ensures
