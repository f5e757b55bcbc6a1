-- What is lent with a valid setup, and what a setup without a list is.
use Rattle.base.proofs.Prelude.{◌≡◌, refl, ap, List, [], ◌∷◌, ℕ, ◌<◌, arith, true, length, eqb-true, eq-eqb, ne_eqb}
use Rattle.pilot_list.specs.List.{is_pilot_list}
use Rattle.modes.specs.{Setup.{Setup, setup_lent, setup_with}, Question.is_lent}
use Rattle.modes.specs.Model.{Unlent, pusc-dl, pusc-ul, ofusc, amc, Ranged, own, fusc, Valid}

-- FUSC has an accepted list.
pub list_lent : {setup : Setup} → Valid setup → setup.mode ≡ 7 → is_pilot_list setup.pilots ≡ true
unfolding is_lent
list_lent {setup} v e = rw (eq-eqb setup.mode 7 e) at v.is-lent

none_left : (l : List ℕ) → length l ≡ 0 → l ≡ []
none_left [] e = refl
none_left (x ∷ l) e = absurd (omega arith)

-- In the modes that take no list nothing is lent,
pub nothing_lent : {mode size cell : ℕ} {pilots : List ℕ} → Valid (setup_lent mode size cell pilots) → (mode ≡ 7 → ⊥) → setup_lent mode size cell pilots ≡ setup_with mode size cell
unfolding is_lent
nothing_lent {mode} {size} {cell} {pilots} v n =
    ap (setup_lent mode size cell) (none_left pilots (eqb-true (length pilots) 0 (rw (ne_eqb mode 7 n) at v.is-lent)))

-- their pilots are their own,
pub own_pilots : {setup : Setup} → Ranged setup → (setup.mode ≡ 7 → ⊥) → Unlent setup
own_pilots (own u) n = u
own_pilots (fusc h) n = absurd (n refl)

-- these are below FUSC,
pub own_mode : {setup : Setup} → Unlent setup → setup.mode < 7
own_mode (pusc-dl h) = omega arith
own_mode (pusc-ul h) = omega arith
own_mode (ofusc w h) = omega arith
own_mode (amc q w h) = omega arith

-- and with nothing lent they are valid.
pub valid_alone : {mode size cell : ℕ} → Unlent (setup_with mode size cell) → Valid (setup_with mode size cell)
unfolding is_lent
valid_alone {mode} u = record { ranged = own u; is-lent = rw (ne_eqb mode 7 (λ e. omega (arith, own_mode u))) refl }
