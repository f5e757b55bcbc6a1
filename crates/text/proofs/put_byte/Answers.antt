-- `text::put_byte` meets its contract.
use Rattle.text.proofs.{Laws.one_byte}
use Rattle.text.proofs.put_byte.Goals as goal

pub returns : goal.returns
returns c = one_byte _ _ _ c.requires
