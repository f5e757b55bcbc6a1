-- `zone::ask_zone` meets its contract.
use Rattle.base.proofs.Prelude.{ap, ◌∙◌}
use Rattle.base.specs.Answer.{refusal_of}
use Rattle.refusal.proofs.Asked.{number_on, number_in, last_asked}
use Rattle.zone.specs.Model.{zone_refusal}
use Rattle.zone.proofs.Number.{fields_no, fields_then}
use Rattle.zone.proofs.ask_zone.Goals as goal

pub returns-in_err-ask_fields : goal.returns-in_err-ask_fields
unfolding zone_refusal
returns-in_err-ask_fields c = number_on _ _ c.from_residual.ensures.1 _ (ap refusal_of (fields_no _ _ _ _ c.in_err-ask_fields.ensures))

pub returns : goal.returns
unfolding zone_refusal
returns c = number_in _ ∙ ap refusal_of (fields_then _ _ _ c.in_ok-ask_fields.ensures _ (last_asked _ _ c.is_order.ensures _ c.ask.ensures))
