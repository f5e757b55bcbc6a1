-- `amc::sequence_place` meets its contract.
use Rattle.base.proofs.Prelude.{ap, ◌∙◌, rules}
use Rattle.amc.specs.{Map.off, Model.{sum_place, sequence_place}}
use Rattle.amc.proofs.{Tables.powers, Sequence.entry_digits}
use Rattle.amc.proofs.sequence_place.Goals as goal

pub sum_place-requires : goal.sum_place-requires
sum_place-requires c =
    let d = entry_digits _ c.requires.2 in
    rw (c.from.ensures, c.requires.0) (search rules, search rules, d.0, d.1, d.2)

pub returns : goal.returns
unfolding sequence_place off
returns c =
    c.sum_place.ensures ∙ rw (c.from.ensures, c.requires.0) (ap (sum_place (off c.args.cell)) (powers _ c.requires.2).printed_is)
