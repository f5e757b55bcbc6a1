-- Questions 1, 2 and 3 let pass just the valid setups; and what 4 and 5 come to.
use Rattle.base.proofs.Prelude.{◌≡◌, refl, sym, ap, subst⁻¹, ◌∙◌, true, List, [], ◌∷◌, ℕ, zero, suc, ◌*◌, ◌/◌, ◌<◌, ◌≤◌, arith, eqb, ltb, lit<}
use Rattle.base.proofs.Prelude.{ltb-true, ltb-false, eqb-true, eqb-false, ne_eqb, lt-ltb}
use Rattle.base.proofs.{Test.{cases, true_false}, Chain.{Questions, AllYes, all_yes, ask_yes}}
use native.Mathlib.Nat.{mul-pos}
use Rattle.base.specs.Answer.{Answer, accepted, ask, refusal_of}
use Rattle.ofusc.specs.Width.{Width, n4, n8, n16, n32}
use Rattle.ofusc.proofs.Sequence.{size, pos}
use Rattle.modes.specs.{Setup.{Setup, setup_lent, setup_with}, Mode.{width_of, cells, cells_of, subchannels}}
use Rattle.modes.specs.Question.{is_listed, is_mode, is_four_sizes, is_size_of, is_size, is_cell, is_slot, is_subchannel, ask_setup}
use Rattle.modes.specs.Model.{IsListed, IsAmc, pusc-dl, pusc-ul, ofusc, amc, Ranged, own, fusc}
use Rattle.modes.proofs.Choice.{at_amc, at_none, by-mode, amc_column}

-- N of a size
pub width_is : (n : ℕ) → 64 * n / 64 ≡ n
width_is n = omega arith

data Listed : ℕ → Type 0 where
  m0 : Listed 0
  m1 : Listed 1
  m2 : Listed 2
  m_amc : {m : ℕ} → IsAmc m → Listed m
  m7 : Listed 7

listed : (m : ℕ) → IsListed m → Listed m
listed zero h = m0
listed (suc zero) h = m1
listed (suc (suc zero)) h = m2
listed (suc (suc (suc m))) h =
    let n = suc (suc (suc m)) in
    cases (eqb n 7) (λ e. subst⁻¹ Listed (eqb-true n 7 e) m7) (λ e. m_amc {m = n} (omega (arith, eqb-false n 7 e)))

pub data Sized : ℕ → Type 0 where
  sized : {n : ℕ} → Width n → Sized (64 * n)

pub four_sizes : (z : ℕ) → is_four_sizes z ≡ true → Sized z
unfolding is_four_sizes
four_sizes z h =
    cases (eqb z 256)
    (λ e. subst⁻¹ Sized (eqb-true z 256 e) (sized n4))
    (λ e. cases (eqb z 512)
    (λ e'. subst⁻¹ Sized (eqb-true z 512 e') (sized n8))
    (λ e'. cases (eqb z 1024)
    (λ e''. subst⁻¹ Sized (eqb-true z 1024 e'') (sized n16))
    (λ e''. subst⁻¹ Sized (eqb-true z 2048 (rw (e, e', e'') at h)) (sized n32))))

ranged_at : {m : ℕ} (z k : ℕ) (l : List ℕ) → Listed m → is_size (setup_lent m z k l) ≡ true → is_cell (setup_lent m z k l) ≡ true → Ranged (setup_lent m z k l)
unfolding is_size is_cell cells_of width_of
ranged_at z k l m0 s e = subst⁻¹ (λ (t : ℕ). Ranged (setup_lent 0 t k l)) (eqb-true z 2048 s) (own (pusc-dl (ltb-true k 32 e)))
ranged_at z k l m1 s e = subst⁻¹ (λ (t : ℕ). Ranged (setup_lent 1 t k l)) (eqb-true z 2048 s) (own (pusc-ul (ltb-true k 70 e)))
ranged_at z k l m2 s e = spread (four_sizes z s) (ltb-true k (z / 64 * (z / 64)) e)
  where
    spread : {z : ℕ} → Sized z → k < z / 64 * (z / 64) → Ranged (setup_lent 2 z k l)
    spread (sized {n = n} w) h = own (ofusc w (rw (width_is n) at h))
ranged_at {m = m} z k l (m_amc q) s e =
    adjacent (four_sizes z (by-mode (at_amc q) ∙ s)) (ltb-true k 2352 (simp amc_column at e))
  where
    adjacent : {z : ℕ} → Sized z → k < 2352 → Ranged (setup_lent m z k l)
    adjacent (sized w) h = own (amc q w h)
ranged_at z k l m7 s e = subst⁻¹ (λ (t : ℕ). Ranged (setup_lent 7 t k l)) (eqb-true z 2048 s) (fusc (ltb-true k 32 e))

pub ranged_by : (c : Setup) → is_mode c ≡ true → is_size c ≡ true → is_cell c ≡ true → Ranged c
unfolding is_mode
ranged_by c e₁ e₂ e₃ = ranged_at c.size c.cell c.pilots (listed c.mode (ltb-true c.mode 8 e₁)) e₂ e₃

-- cell 0 is a cell of every listed mode and size
pub some_cell : (m z : ℕ) → is_listed m ≡ true → is_size_of m z ≡ true → 0 < cells (setup_with m z 0)
unfolding cells_of width_of
some_cell m z e = at (listed m (ltb-true m 8 e))
  where
    spread : {z : ℕ} → Sized z → 0 < z / 64 * (z / 64)
    spread (sized {n = n} w) = rw (width_is n) (mul-pos (pos w) (pos w))

    at : {m : ℕ} → Listed m → is_size_of m z ≡ true → 0 < cells (setup_with m z 0)
    at m0 s = lit< tt
    at m1 s = lit< tt
    at m2 s = spread (four_sizes z s)
    at (m_amc q) s = simp amc_column (lit< tt)
    at m7 s = lit< tt

-- what an accepted setup is
pub setup_asked : {A : Type 0} (c : Setup) (rest : Answer A) {a : A} → ask_setup c rest ≡ accepted a → Ranged c × (rest ≡ accepted a)
setup_asked c rest e =
    let q₁ = ask_yes (is_mode c) 1 _ e in
    let q₂ = ask_yes (is_size c) 2 _ q₁.1 in
    let q₃ = ask_yes (is_cell c) 3 rest q₂.1 in
    (ranged_by c q₁.0 q₂.0 q₃.0, q₃.1)

-- and a valid setup passes
pub size_passes : {n : ℕ} → Width n → is_four_sizes (64 * n) ≡ true
unfolding is_four_sizes
size_passes n4 = refl
size_passes n8 = refl
size_passes n16 = refl
size_passes n32 = refl

pub passes : {A : Type 0} {c : Setup} {rest : Answer A} → Ranged c → ask_setup c rest ≡ rest
unfolding is_mode is_size is_cell cells_of width_of
passes (own (pusc-dl h)) = rw (lt-ltb _ _ h)
passes (own (pusc-ul h)) = rw (lt-ltb _ _ h)
passes (own (ofusc {n = n} w h)) = rw (size_passes w, width_is n, lt-ltb _ _ h)
passes (own (amc {mode = m} q w h)) = simp amc_column (rw (lt-ltb m 8 (omega arith), size_passes w, lt-ltb _ _ h))
passes (fusc h) = rw (lt-ltb _ _ h)

-- what the first three questions come to: a number, or a valid setup
abbrev pub setup_questions : (c : Setup) → Questions
setup_questions c = (is_mode c, 1) ∷ (is_size c, 2) ∷ (is_cell c, 3) ∷ []

pub setup_yes : {c : Setup} → Ranged c → AllYes (setup_questions c)
setup_yes {c} v = all_yes (setup_questions c) tt (ap refusal_of (passes {rest = accepted tt} v))

pub four_rest : (size : ℕ) → (size ≡ 256 → ⊥) → (size ≡ 512 → ⊥) → (size ≡ 1024 → ⊥) → eqb size 2048 ≡ is_four_sizes size
unfolding is_four_sizes
four_rest size a b d = rw (ne_eqb size 256 a, ne_eqb size 512 b, ne_eqb size 1024 d)

pub size_most : (c : Setup) → is_size c ≡ true → c.size ≤ 2048
unfolding is_size
size_most c e =
    cases (ltb c.mode 8)
    (λ t. at (listed c.mode (ltb-true c.mode 8 t)) e)
    (λ t. absurd (true_false (sym (by-mode (at_none (λ (l : c.mode < 8). omega (arith, ltb-false c.mode 8 t))) ∙ e))))
  where
    most : {z : ℕ} → Sized z → z ≤ 2048
    most (sized w) = omega (arith, (size w).most)

    at : {m : ℕ} → Listed m → is_size_of m c.size ≡ true → c.size ≤ 2048
    at m0 s = omega (arith, eqb-true c.size 2048 s)
    at m1 s = omega (arith, eqb-true c.size 2048 s)
    at m2 s = most (four_sizes c.size s)
    at (m_amc q) s = most (four_sizes c.size (by-mode (at_amc q) ∙ s))
    at m7 s = omega (arith, eqb-true c.size 2048 s)

-- 4 and 5, before whatever follows them
module _ {A : Type 0} (rest : Answer A) where
  pub slot_yes : (slot : ℕ) → slot < 512 → ask (is_slot slot) 4 rest ≡ rest
  unfolding is_slot
  slot_yes slot h = rw (lt-ltb slot 512 h)

  pub subchannel_yes : (setup : Setup) (s : ℕ) → s < subchannels setup → ask (is_subchannel setup s) 5 rest ≡ rest
  unfolding is_subchannel
  subchannel_yes setup s h = rw (lt-ltb s (subchannels setup) h)
