use Rattle.base.proofs.{Prelude.{◌≡◌, ap, ◌∙◌, ℕ}, Tabulate.{written_none, written_next, written_all}}
use Rattle.base.specs.Steps.{skip}
use Rattle.runs.specs.{declared.Runs.Runs, Model.run_place}
use Rattle.runs.proofs.run_places.Goals as goal

place_is : (b : Runs) (j x p : ℕ) → x ≡ skip b.first j → p ≡ skip b.second x → p ≡ run_place b j
unfolding run_place
place_is b j x p e q = q ∙ ap (skip b.second) e

pub loop-j-init : goal.loop-j-init
loop-j-init c = written_none 12 _

pub loop-j-preserved : goal.loop-j-preserved
loop-j-preserved c = written_next c.loop-j.invariant c.loop-j-test.true _ (place_is _ _ _ _ c.skip.ensures.0 c.skip-in-loop-j.ensures.0)

pub returns : goal.returns
returns c = written_all c.loop-j.invariant c.loop-j-test.false
