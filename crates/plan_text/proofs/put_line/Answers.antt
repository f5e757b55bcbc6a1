-- `plan_text::put_line` meets its contract.
use Rattle.base.proofs.Prelude.{◌∙◌, arith}
use Rattle.text.proofs.Laws.{put_four}
use Rattle.plan_text.specs.Lines.{line_of}
use Rattle.plan_text.proofs.put_line.Goals as goal

pub put_field-after_cell-requires : goal.put_field-after_cell-requires
put_field-after_cell-requires c = omega (arith, c.put_field-after_mode.ensures.1, c.put_field-after_mode.auto.dest)

pub put_field-after_slots-requires : goal.put_field-after_slots-requires
put_field-after_slots-requires c =
    let first = c.put_field-after_mode in
    let second = c.put_field-after_cell in
    omega (arith, first.ensures.1, first.auto.dest, second.ensures.1, second.auto.dest)

pub put_field-requires : goal.put_field-requires
put_field-requires c =
    let first = c.put_field-after_mode in
    let second = c.put_field-after_cell in
    let third = c.put_field-after_slots in
    omega (arith, first.ensures.1, first.auto.dest, second.ensures.1, second.auto.dest, third.ensures.1, third.auto.dest)

pub shape_of-dest : goal.shape_of-dest
shape_of-dest c = c.put_field.auto.dest ∙ c.put_field-after_slots.auto.dest ∙ c.put_field-after_cell.auto.dest ∙ c.put_field-after_mode.auto.dest

pub returns : goal.returns
unfolding line_of
returns c =
    let first = c.put_field-after_mode in
    let second = c.put_field-after_cell in
    let third = c.put_field-after_slots in
    let fourth = c.put_field in (
      put_four _ _ _ _ (omega arith) first.ensures.0 second.ensures.0 third.ensures.0 fourth.ensures.0,
      omega (arith, first.ensures.1, second.ensures.1, third.ensures.1, fourth.ensures.1),
    )
