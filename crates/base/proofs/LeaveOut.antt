-- Leaving one place out loses nothing: `skip p` goes onto the places other than p, and `unskip p` comes back.
use Rattle.base.proofs.Prelude.{◌≡◌, refl, ap, ◌∙◌, Bool, true, false, ℕ, ◌+◌, ◌-◌, ◌<◌, ◌≤◌, arith, ltb, leb, ltb-true, ltb-false, le-ltb}
use Rattle.base.proofs.Prelude.{lt-ltb}
use Rattle.base.proofs.Test.{cases}
use mir.{Syntax.w16, Val.{Fits, bool_byte}}
use borrow.Author.Tests.{leb-true, leb-false, le-leb, lt-leb}
use Rattle.base.specs.{Choice.pick, Steps.{skip, unskip}}

-- the two values of each, by the test
pub skip_below : (p r : ℕ) → r < p → skip p r ≡ r
unfolding skip
skip_below p r h = rw (lt-leb p r h) (omega arith)

pub skip_above : (p r : ℕ) → p ≤ r → skip p r ≡ r + 1
unfolding skip
skip_above p r h = rw (le-leb p r h)

pub unskip_below : (p w : ℕ) → w ≤ p → unskip p w ≡ w
unfolding unskip
unskip_below p w h = rw (le-ltb p w h) (omega arith)

pub unskip_above : (p w : ℕ) → p < w → unskip p w ≡ w - 1
unfolding unskip
unskip_above p w h = rw (lt-ltb p w h)

-- two cases of r against p
pub split : {A : Type 0} (p r : ℕ) → (r < p → A) → (p ≤ r → A) → A
split p r f g = cases (leb p r) (λ e. g (leb-true p r e)) (λ e. f (leb-false p r e))

pub unskip_skip : (p r : ℕ) → unskip p (skip p r) ≡ r
unskip_skip p r =
    split p r
    (λ h. ap (unskip p) (skip_below p r h) ∙ unskip_below p r (omega arith))
    (λ h. ap (unskip p) (skip_above p r h) ∙ unskip_above p (r + 1) (omega arith) ∙ omega arith)

pub skip_unskip : (p w : ℕ) → (w ≡ p → ⊥) → skip p (unskip p w) ≡ w
skip_unskip p w ne =
    split p w
    (λ h. ap (skip p) (unskip_below p w (omega arith)) ∙ skip_below p w h)
    (λ h. ap (skip p) (unskip_above p w (omega arith)) ∙ skip_above p (w - 1) (omega arith) ∙ omega arith)

pub skip_ne : (p r : ℕ) → skip p r ≡ p → ⊥
skip_ne p r e =
    split p r
    (λ h. let v = skip_below p r h in omega arith)
    (λ h. let v = skip_above p r h in omega arith)

-- r of n counted places is below n + 1, and not below r
pub skip_lt : (p r : ℕ) {n : ℕ} → r < n → skip p r < n + 1
skip_lt p r h =
    split p r
    (λ l. let v = skip_below p r l in omega arith)
    (λ l. let v = skip_above p r l in omega arith)

pub unskip_lt : (p w : ℕ) {n : ℕ} → p ≤ n → (w ≡ p → ⊥) → w < n + 1 → unskip p w < n
unskip_lt p w le ne h =
    split p w
    (λ l. let v = unskip_below p w (omega arith) in omega arith)
    (λ l. let v = unskip_above p w (omega arith) in omega arith)

-- a counted place lies below w exactly when its number is below that of w
pub skip_before : (p r w : ℕ) → skip p r < w → r < unskip p w
unfolding skip unskip
skip_before p r w h =
    cases (leb p r)
    (λ e. let l = leb-true p r e in let h' : r + 1 < w = rw e at h in rw (lt-ltb p w (omega arith)) (omega arith))
    (λ e. let l = leb-false p r e in
    cases (ltb p w)
    (λ t. let k = ltb-true p w t in rw t (omega arith))
    (λ t. let h' : r + 0 < w = rw e at h in rw t (omega arith)))

pub before_skip : (p r w : ℕ) → r < unskip p w → skip p r < w
unfolding skip unskip
before_skip p r w h =
    cases (ltb p w)
    (λ t. let k = ltb-true p w t in let h' : r < w - 1 = rw t at h in
    cases (leb p r) (λ e. rw e (omega arith)) (λ e. rw e (omega arith)))
    (λ t. let k = ltb-false p w t in let h' : r < w - 0 = rw t at h in
    rw (lt-leb p r (omega arith)) (omega arith))

-- whatever is left out, a number moves by one at most
pub skip_le : (p r : ℕ) → skip p r ≤ r + 1
skip_le p r =
    split p r
    (λ l. let v = skip_below p r l in omega arith)
    (λ l. let v = skip_above p r l in omega arith)

pub unskip_le : (p w : ℕ) → unskip p w ≤ w
unfolding unskip
unskip_le p w = omega arith

-- the step as the code adds it, a test as a number
pub step_is : (b : Bool) → bool_byte b ≡ pick b 1 0
step_is true = refl
step_is false = refl

step_le : (b : Bool) → bool_byte b ≤ 1
step_le true = omega arith
step_le false = omega arith

pub step_fits : (x : ℕ) (b : Bool) → x < 65535 → Fits w16 (x + bool_byte b)
step_fits x b h = omega (arith, step_le b)

pub skip_step : (p r : ℕ) → r + bool_byte (leb p r) ≡ skip p r
unfolding skip
skip_step p r = ap (λ (x : ℕ). r + x) (step_is (leb p r))
