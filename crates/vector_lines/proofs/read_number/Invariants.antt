-- `vector_lines::read_number` meets its contract. The loop's invariant: what is left gives the answer. The measure is what is left of the source.
use Rattle.std.proofs.Common.{◌≡◌, ◌-◌, length, drop}
use Rattle.vector_lines.specs.Model.{read_on, parsed_at}
use Rattle.vector_lines.proofs.read_number.Given as goal

abbrev pub invariant-loop-digit : goal.invariant-loop-digit
invariant-loop-digit l = read_on l.value l.next (drop l.next l.src) ≡ parsed_at l.src l.at

abbrev pub decreases-loop-digit : goal.decreases-loop-digit
decreases-loop-digit l = length l.src - l.next
