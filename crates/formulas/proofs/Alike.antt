-- Which slots and cells have their pilots at the same places.
use Rattle.base.proofs.{Prelude.{◌≡◌, refl, sym, ap, ◌∙◌, List, ℕ, ◌+◌, ◌*◌, ◌/◌, ◌%◌, div-add-mod', arith, eqb, eq-eqb, eqb-true}, Test.cases}
use native.Mathlib.Nat.{add_assoc, add-mul, mul_assoc, mul_right_comm, mul-add-mod_self_right}
use Rattle.carriers.specs.Bin.{bin_pilot_place, is_bin_pilot}
use Rattle.clusters.proofs.Tables.{pilot_parity}
use Rattle.modes.specs.{Setup.{Setup, setup_lent}, Mode.{symbols, symbols_of}}
use Rattle.formulas.specs.Formula.{is_pilot}

-- the number of a symbol mod 3, by its slot mod 3, and where a slot has three or six
mod_3 : (a k o : ℕ) → (a * k + o) % 3 ≡ (a % 3 * k + o) % 3
mod_3 a k o = ap (λ (x : ℕ). (x * k + o) % 3) (sym (div-add-mod' a 3)) ∙ ap (λ (x : ℕ). x % 3) parts ∙ mul-add-mod_self_right (a / 3 * k) 3 (a % 3 * k + o)
  where
    parts : (a / 3 * 3 + a % 3) * k + o ≡ a / 3 * k * 3 + (a % 3 * k + o)
    parts = rw (add-mul (a / 3 * 3) (a % 3) k, mul_right_comm (a / 3) 3 k) (add_assoc _ _ _)

by_threes : (a k o : ℕ) → k % 3 ≡ 0 → (a * k + o) % 3 ≡ o % 3
by_threes a k o z =
    let threes : k ≡ k / 3 * 3 = omega arith in
    ap (λ (x : ℕ). (a * x + o) % 3) threes ∙ ap (λ (x : ℕ). (x + o) % 3) (sym (mul_assoc a (k / 3) 3)) ∙ mul-add-mod_self_right (a * (k / 3)) 3 o

-- Two slots whose symbols agree mod 3, each with its own: slots that agree mod 3, and any two where a slot has three or six symbols.
abbrev pub Alike : (setup : Setup) (slot other : ℕ) → Type 0
Alike setup slot other = (o : ℕ) → (slot * symbols setup + o) % 3 ≡ (other * symbols setup + o) % 3

pub alike_mod_3 : (setup : Setup) (slot other : ℕ) → slot % 3 ≡ other % 3 → Alike setup slot other
alike_mod_3 setup slot other e o = mod_3 slot (symbols setup) o ∙ ap (λ (r : ℕ). (r * symbols setup + o) % 3) e ∙ sym (mod_3 other (symbols setup) o)

pub alike_by_threes : (setup : Setup) (slot other : ℕ) → symbols setup % 3 ≡ 0 → Alike setup slot other
alike_by_threes setup slot other z o = by_threes slot (symbols setup) o z ∙ sym (by_threes other (symbols setup) o z)

-- ---- their pilots

-- in PUSC downlink every slot's
pub pilots_down : (setup : Setup) (slot other : ℕ) → setup.mode ≡ 0 → (o used : ℕ) → is_pilot setup (slot * symbols setup + o) used ≡ is_pilot setup (other * symbols setup + o) used
unfolding is_pilot symbols_of
pilots_down setup slot other z o used = rw (eq-eqb setup.mode 0 z) (pilot_parity slot o used ∙ sym (pilot_parity other o used))

-- in FUSC every slot's, with the same list
pub pilots_lent : (setup : Setup) (slot other : ℕ) → setup.mode ≡ 7 → (o used : ℕ) → is_pilot setup (slot * symbols setup + o) used ≡ is_pilot setup (other * symbols setup + o) used
unfolding is_pilot
pilots_lent setup slot other z o used = rw z

pub pilots_alike : (setup : Setup) (slot other : ℕ) → Alike setup slot other → (o used : ℕ) → is_pilot setup (slot * symbols setup + o) used ≡ is_pilot setup (other * symbols setup + o) used
unfolding is_pilot is_bin_pilot bin_pilot_place
pilots_alike setup slot other e o used =
    cases (eqb setup.mode 0)
    (λ t. pilots_down setup slot other (eqb-true setup.mode 0 t) o used)
    (λ t. rw t (simp (e o)))

-- ---- what of a symbol does not take the cell

module _ (mode size cell other : ℕ) (pilots : List ℕ) where
  pub same_pilots : (symbol used : ℕ) → is_pilot (setup_lent mode size cell pilots) symbol used ≡ is_pilot (setup_lent mode size other pilots) symbol used
  unfolding is_pilot
  same_pilots symbol used = refl
