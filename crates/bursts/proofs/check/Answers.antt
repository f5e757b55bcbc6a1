-- `bursts::check` meets its contract.
use Rattle.base.proofs.Prelude.{refl, ap, ◌∙◌}
use Rattle.base.specs.Answer.{refusal_of}
use Rattle.refusal.proofs.Asked.{number_on}
use Rattle.burst_list.specs.Model.{list_refusal}
use Rattle.bursts.specs.Burst.{check_of}
use Rattle.zone.proofs.Number.{fields_no, fields_then}
use Rattle.bursts.proofs.Answer.{list_asks}
use Rattle.bursts.proofs.check.Goals as goal

pub returns-in_err-ask_fields : goal.returns-in_err-ask_fields
unfolding check_of
returns-in_err-ask_fields c = number_on _ _ c.from_residual.ensures.1 _ (ap refusal_of (fields_no _ _ _ _ c.in_err-ask_fields.ensures))

pub ask_list-requires : goal.ask_list-requires
ask_list-requires c = list_asks _ _ c.in_ok-ask_fields.ensures c.subchannels.ensures

pub returns : goal.returns
unfolding check_of list_refusal
returns c = rw c.subchannels.ensures at c.ask_list.ensures ∙ ap refusal_of (fields_then _ _ _ c.in_ok-ask_fields.ensures _ refl)
