-- `vector_lines::digit_at` meets its contract.
use Rattle.vector_lines.proofs.Reading.{none_past, none_out, some_in}
use Rattle.vector_lines.proofs.digit_at.Goals as goal

pub returns-in_err-byte : goal.returns-in_err-byte
returns-in_err-byte c = rw c.from_residual.ensures (none_past c.args.src.now c.args.at c.in_err-byte.ensures.lookup.3)

pub returns-then-byte-lt48 : goal.returns-then-byte-lt48
returns-then-byte-lt48 c = none_out _ _ (c.in_ok-byte.ensures.lookup.3.1 0) c.then-byte-lt48.either

pub returns : goal.returns
returns c = some_in _ _ (c.in_ok-byte.ensures.lookup.3.1 0) c.if-byte-lt48.false c.if-byte-gt57.false _ c.from.ensures
