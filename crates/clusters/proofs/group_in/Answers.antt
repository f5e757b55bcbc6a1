-- `clusters::group_in` meets its contract: in each arm the tests of the definition are those that led there.
use Rattle.base.proofs.Prelude.{refl, lit<, lt-ltb, le-ltb}
use Rattle.clusters.specs.Group.{group_in}
use Rattle.clusters.proofs.group_in.Goals as goal

pub returns-then-x-starts : goal.returns-then-x-starts
unfolding group_in
returns-then-x-starts c = rw (lt-ltb _ _ c.if-x-starts.true) (refl, lit< tt)

pub returns-then-x-starts-2 : goal.returns-then-x-starts-2
unfolding group_in
returns-then-x-starts-2 c = rw (le-ltb _ _ c.if-x-starts.false, lt-ltb _ _ c.if-x-starts-2.true) (refl, lit< tt)

pub returns-then-x-starts-3 : goal.returns-then-x-starts-3
unfolding group_in
returns-then-x-starts-3 c = rw (le-ltb _ _ c.if-x-starts.false, le-ltb _ _ c.if-x-starts-2.false, lt-ltb _ _ c.if-x-starts-3.true) (refl, lit< tt)

pub returns-then-x-starts-4 : goal.returns-then-x-starts-4
unfolding group_in
returns-then-x-starts-4 c = rw (le-ltb _ _ c.if-x-starts.false, le-ltb _ _ c.if-x-starts-2.false, le-ltb _ _ c.if-x-starts-3.false, lt-ltb _ _ c.if-x-starts-4.true) (refl, lit< tt)

pub returns-then-x-starts-5 : goal.returns-then-x-starts-5
unfolding group_in
returns-then-x-starts-5 c = rw (le-ltb _ _ c.if-x-starts.false, le-ltb _ _ c.if-x-starts-2.false, le-ltb _ _ c.if-x-starts-3.false, le-ltb _ _ c.if-x-starts-4.false, lt-ltb _ _ c.if-x-starts-5.true) (refl, lit< tt)

pub returns : goal.returns
unfolding group_in
returns c = rw (le-ltb _ _ c.if-x-starts.false, le-ltb _ _ c.if-x-starts-2.false, le-ltb _ _ c.if-x-starts-3.false, le-ltb _ _ c.if-x-starts-4.false, le-ltb _ _ c.if-x-starts-5.false) (refl, lit< tt)
