-- `modes::shape` meets its contract.
use Rattle.base.proofs.Prelude.{arith, ne_eqb}
use Rattle.modes.specs.Mode.{shape_of}
use Rattle.modes.proofs.shape.Goals as goal

pub returns-in-3 : goal.returns-in-3
unfolding shape_of
returns-in-3 c = rw c.in-3.is

pub returns-in-4 : goal.returns-in-4
unfolding shape_of
returns-in-4 c = rw c.in-4.is

pub returns-in-5 : goal.returns-in-5
unfolding shape_of
returns-in-5 c = rw c.in-5.is

pub returns-in-6 : goal.returns-in-6
unfolding shape_of
returns-in-6 c = rw c.in-6.is

pub returns-in_default : goal.returns-in_default
unfolding shape_of
returns-in_default c = rw (ne_eqb c.args.mode 3 (λ z. omega arith), ne_eqb c.args.mode 4 (λ z. omega arith), ne_eqb c.args.mode 5 (λ z. omega arith), ne_eqb c.args.mode 6 (λ z. omega arith))
