-- The mode of a number meets its contract.
use Rattle.base.proofs.Prelude.{arith, ne_eqb, lt-ltb, le-ltb}
use borrow.Author.Tests.{le-leb}
use Rattle.modes.specs.Named.{named}
use Rattle.modes.proofs.ModeTryFromUsize.try_from.Goals as goal

pub returns-in-0 : goal.returns-in-0
unfolding named
returns-in-0 c = rw c.in-0.is

pub returns-in-1 : goal.returns-in-1
unfolding named
returns-in-1 c = rw c.in-1.is

pub returns-in-2 : goal.returns-in-2
unfolding named
returns-in-2 c = rw c.in-2.is

pub returns-in-3-to-6 : goal.returns-in-3-to-6
unfolding named
returns-in-3-to-6 c = rw (c.shape.ensures, ne_eqb c.args.number 0 (λ z. omega arith), ne_eqb c.args.number 1 (λ z. omega arith), ne_eqb c.args.number 2 (λ z. omega arith), le-leb 3 c.args.number (omega arith), lt-ltb c.args.number 7 (omega arith))

pub returns-in-7 : goal.returns-in-7
unfolding named
returns-in-7 c = rw c.in-7.is

pub returns-in_default : goal.returns-in_default
unfolding named
returns-in_default c = rw (ne_eqb c.args.number 0 (λ z. omega arith), ne_eqb c.args.number 1 (λ z. omega arith), ne_eqb c.args.number 2 (λ z. omega arith), le-leb 3 c.args.number (omega arith), le-ltb c.args.number 7 (omega arith), ne_eqb c.args.number 7 (λ z. omega arith))
