-- `look::look` meets its contract.
use Rattle.base.proofs.Prelude.{refl, ap, ◌∙◌, arith}
use Rattle.refusal.proofs.Asked.{number_ne0}
use Rattle.modes.specs.Setup.{lent}
use Rattle.modes.proofs.{ByMode.ranged_alone, Outcome.size_few}
use mir.{Syntax.w32, ValLaws.to_z-of_z}
use Rattle.grid.specs.Row.{column_position}
use Rattle.look.specs.Look.{sight}
use Rattle.look.proofs.Looked.{seen_on, look_refused, look_asked, look_column, look_done}
use Rattle.look.proofs.look.Goals as goal

pub returns-in_err-ask_look : goal.returns-in_err-ask_look
returns-in_err-ask_look c =
    seen_on _ _ c.from_residual.ensures.1 _
    (look_refused (lent c.args.setup c.args.pilots.now) _ _ _ _ (to_z-of_z w32 c.args.carrier c.ranges.carrier) c.args.grid.now _ c.in_err-ask_look.ensures (number_ne0 _))

pub column-column-requires : goal.column-column-requires
column-column-requires c =
    let a = look_asked _ _ _ _ _ refl c.args.grid.now 0 c.in_ok-ask_look.ensures refl in
    (size_few (ranged_alone a.lit.valid), a.in-range)

pub column_position-requires : goal.column_position-requires
column_position-requires c =
    let grid = c.args.grid.now in
    let a = look_asked _ _ _ _ _ refl grid 0 c.in_ok-ask_look.ensures refl in
    record { ranged = ranged_alone a.lit.valid; column_lt_size = look_column _ _ _ _ _ refl grid 0 c.in_ok-ask_look.ensures refl _ c.column-column.ensures }

pub point_at-p-requires : goal.point_at-p-requires
point_at-p-requires c =
    let a = look_asked _ _ _ _ _ refl c.args.grid.now 0 c.in_ok-ask_look.ensures refl in
    omega (arith, a.grid_long, c.column_position.ensures.1)

pub lit_content-content-requires : goal.lit_content-content-requires
lit_content-content-requires c =
    let grid = c.args.grid.now in
    let a = look_asked _ _ _ _ _ refl grid 0 c.in_ok-ask_look.ensures refl in
    record { valid = a.lit.valid; symbol_bound = (a.symbol_lt, look_column _ _ _ _ _ refl grid 0 c.in_ok-ask_look.ensures refl _ c.column-column.ensures) }

pub returns : goal.returns
unfolding column_position
returns c =
    look_done _ _ _ _ _ (to_z-of_z w32 c.args.carrier c.ranges.carrier) c.args.grid.now 0 c.in_ok-ask_look.ensures refl _ c.column-column.ensures _ c.column_position.ensures.0
    _ c.point_at-p.ensures _ (c.sight.ensures ∙ ap (sight c.point_at-p.result) c.lit_content-content.ensures)
