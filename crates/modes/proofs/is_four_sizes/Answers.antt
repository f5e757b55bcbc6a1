-- `modes::is_four_sizes` meets its contract.
use Rattle.base.proofs.Prelude.{arith, ne_eqb}
use Rattle.modes.specs.Question.{is_four_sizes}
use Rattle.modes.proofs.is_four_sizes.Goals as goal

pub returns-in-256 : goal.returns-in-256
unfolding is_four_sizes
returns-in-256 c = rw c.in-256.is

pub returns-in-512 : goal.returns-in-512
unfolding is_four_sizes
returns-in-512 c = rw c.in-512.is

pub returns-in-1024 : goal.returns-in-1024
unfolding is_four_sizes
returns-in-1024 c = rw c.in-1024.is

pub returns-in-2048 : goal.returns-in-2048
unfolding is_four_sizes
returns-in-2048 c = rw c.in-2048.is

pub returns-in_default : goal.returns-in_default
unfolding is_four_sizes
returns-in_default c = rw (ne_eqb c.args.size 256 (λ z. omega arith), ne_eqb c.args.size 512 (λ z. omega arith), ne_eqb c.args.size 1024 (λ z. omega arith), ne_eqb c.args.size 2048 (λ z. omega arith))
