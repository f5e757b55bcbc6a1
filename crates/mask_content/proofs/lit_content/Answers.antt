-- `mask_content::lit_content` meets its contract.
use Rattle.base.proofs.Prelude.{◌≡◌, ◌∙◌, sym}
use Rattle.modes.proofs.ByMode.{ranged_alone}
use Rattle.map.specs.Place.{guard, dc, pilot}
use Rattle.mask_content.proofs.Content.{content_lit, lit_shown, dark_shown, guard_shown, has_used}
use Rattle.mask_content.proofs.lit_content.Goals.{in-Guard, in-Dc, in-Pilot, in-Data}
use Rattle.mask_content.proofs.lit_content.Goals as goal

pub is_column_lit-is_lit-requires : goal.is_column_lit-is_lit-requires
is_column_lit-is_lit-requires c =
    let p = c.requires in
    record { ranged = ranged_alone p.valid; setup_bound = has_used p.valid c.args.mask _ _ p.symbol_bound.0 p.symbol_bound.1 dc (λ (e : dc ≡ guard). cc) c.in-Dc.ensures }

pub is_column_lit-is_lit-requires-in-Pilot : goal.is_column_lit-is_lit-requires-in-Pilot
is_column_lit-is_lit-requires-in-Pilot c =
    let p = c.requires in
    record { ranged = ranged_alone p.valid; setup_bound = has_used p.valid c.args.mask _ _ p.symbol_bound.0 p.symbol_bound.1 pilot (λ (e : pilot ≡ guard). cc) c.in-Pilot.ensures }

pub returns-then-is_lit : goal.returns-then-is_lit
returns-then-is_lit c =
    let p = c.requires in
    elim c.match-content.branch [
      | in-Guard w ↦ absurd (cc (w.is_lit-is, c.if-is_lit.true))
      | in-Dc w ↦ lit_shown p.valid c.args.mask _ _ p.symbol_bound.0 p.symbol_bound.1 _ (cc (w.content-is, c.content-content.ensures)) (cc (w.is_lit-is, c.if-is_lit.true, w.is_column_lit-is_lit.ensures))
      | in-Pilot w ↦ lit_shown p.valid c.args.mask _ _ p.symbol_bound.0 p.symbol_bound.1 _ (cc (w.content-is, c.content-content.ensures)) (cc (w.is_lit-is, c.if-is_lit.true, w.is_column_lit-is_lit-in-Pilot.ensures))
      | in-Data w ↦ lit_shown p.valid c.args.mask _ _ p.symbol_bound.0 p.symbol_bound.1 _ (cc (w.content-is, c.content-content.ensures)) (content_lit p.valid c.args.mask _ _ p.symbol_bound.0 p.symbol_bound.1 _ _ _ (sym w.in-Data.ensures) ∙ sym w.is_lit-is_lit.ensures ∙ sym w.is_lit-is ∙ c.if-is_lit.true)
    ]

pub returns-else-is_lit : goal.returns-else-is_lit
returns-else-is_lit c =
    let p = c.requires in
    elim c.match-content.branch [
      | in-Guard w ↦ guard_shown p.valid c.args.mask _ _ p.symbol_bound.0 p.symbol_bound.1 w.in-Guard.ensures
      | in-Dc w ↦ dark_shown p.valid c.args.mask _ _ p.symbol_bound.0 p.symbol_bound.1 (cc (w.is_lit-is, c.if-is_lit.false, w.is_column_lit-is_lit.ensures))
      | in-Pilot w ↦ dark_shown p.valid c.args.mask _ _ p.symbol_bound.0 p.symbol_bound.1 (cc (w.is_lit-is, c.if-is_lit.false, w.is_column_lit-is_lit-in-Pilot.ensures))
      | in-Data w ↦ dark_shown p.valid c.args.mask _ _ p.symbol_bound.0 p.symbol_bound.1 (content_lit p.valid c.args.mask _ _ p.symbol_bound.0 p.symbol_bound.1 _ _ _ (sym w.in-Data.ensures) ∙ sym w.is_lit-is_lit.ensures ∙ sym w.is_lit-is ∙ c.if-is_lit.false)
    ]
