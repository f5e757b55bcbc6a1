-- `ofusc::cell_term` meets its contract.
use Rattle.base.proofs.Prelude.{◌∙◌}
use native.Mathlib.Nat.{mod-mod}
use Rattle.ofusc.proofs.{Sequence.{cell_term_as}, Tables.cell_term_is}
use Rattle.ofusc.proofs.cell_term.Goals as goal

pub returns : goal.returns
returns c =
    rw (c.term.ensures, c.term-2.ensures, c.parts-c.ensures.0, c.parts-c.ensures.1, c.turn-turned.ensures)
    (cell_term_is c.args.width.is_width _ _ ∙ cell_term_as _ _ _ _ (mod-mod _ _))
