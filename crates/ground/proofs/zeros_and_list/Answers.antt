-- `ground::zeros_and_list` meets its contract.
use Rattle.base.proofs.Prelude.{arith}
use Rattle.modes.specs.Setup.{lent}
use Rattle.ground.proofs.{Pilots.{ground_start, ground_next, ground_done}, Lent.only_row}
use Rattle.ground.proofs.zeros_and_list.Goals as goal

pub returns : goal.returns
returns c =
    let start = c in
    let setup = lent start.args.setup start.args.pilots.now in
    let one = only_row setup start.requires.mode_value.0 in
    let cleared = ground_start setup start.requires.valid start.args.mask start.args.slot start.args.p _ start.requires.mode_value.2 _ c.clear.ensures in
    ground_done setup start.requires.valid _ _ _ (ground_next setup start.requires.valid _ _ _ cleared (omega arith) _ c.list_pilots.ensures) start.requires.mode_value.1 (omega arith)
