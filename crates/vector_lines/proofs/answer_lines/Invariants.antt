-- `vector_lines::answer_lines` ends. The measure is what is left of the input.
use Rattle.std.proofs.Common.{◌-◌, length}
use Rattle.vector_lines.proofs.answer_lines.Given as goal

abbrev pub decreases-loop-at : goal.decreases-loop-at
decreases-loop-at g l = length l.input - l.at
