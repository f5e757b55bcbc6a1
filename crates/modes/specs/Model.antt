-- The first questions as a number, and what they let pass. No reader needs this to know what the calls do.
use Rattle.std.specs.Prelude.{◌≡◌, Bool, true, false, List, ℕ, ◌*◌, ◌<◌, ◌≤◌, leb, ltb}
use Rattle.base.specs.Choice.{pick}
use Rattle.base.specs.Answer.{accepted, refusal_of}
use Rattle.ofusc.specs.Width.{Width}
use Rattle.modes.specs.Setup.{Setup, setup_lent, setup_with}
use Rattle.modes.specs.Question.{is_lent, ask_setup}

-- the number of the first of questions 1, 2 and 3 that is answered no, 0 where none is; they do not go by what is lent
unfoldable pub refusal_at : (mode size cell : ℕ) → ℕ
refusal_at mode size cell = refusal_of (ask_setup {A = Unit {0}} (setup_with mode size cell) (accepted tt))

abbrev pub setup_refusal : (setup : Setup) → ℕ
setup_refusal setup = refusal_at setup.mode setup.size setup.cell

-- the listed modes
abbrev pub IsListed : (mode : ℕ) → Type 0
IsListed mode = mode < 8

-- the modes over bins: optional FUSC and AMC
abbrev pub OverBins : (mode : ℕ) → Type 0
OverBins mode = (2 ≤ mode) × (mode < 7)

abbrev pub is_over_bins : (mode : ℕ) → Bool
is_over_bins mode = pick (leb 2 mode) (ltb mode 7) false

-- the modes of AMC
abbrev pub IsAmc : (mode : ℕ) → Type 0
IsAmc mode = (3 ≤ mode) × (mode < 7)

-- The setups of the modes whose pilots are their own, whatever is lent.
pub data Unlent : Setup → Type 0 where
  pusc-dl : {cell : ℕ} {pilots : List ℕ} → cell < 32 → Unlent (setup_lent 0 2048 cell pilots)
  pusc-ul : {cell : ℕ} {pilots : List ℕ} → cell < 70 → Unlent (setup_lent 1 2048 cell pilots)
  ofusc : {n cell : ℕ} {pilots : List ℕ} → Width n → cell < n * n → Unlent (setup_lent 2 (64 * n) cell pilots)
  amc : {mode n cell : ℕ} {pilots : List ℕ} → IsAmc mode → Width n → cell < 2352 → Unlent (setup_lent mode (64 * n) cell pilots)

-- The setups that questions 1, 2 and 3 let pass, whatever is lent: what an inner function that takes no list may require.
pub data Ranged : Setup → Type 0 where
  own : {setup : Setup} → Unlent setup → Ranged setup
  fusc : {cell : ℕ} {pilots : List ℕ} → cell < 32 → Ranged (setup_lent 7 2048 cell pilots)

-- The setups that question 20 lets pass too: what an inner function with a list may require.
pub record Valid (setup : Setup) : Type 0 where
  pub ranged : Ranged setup
  pub is-lent : is_lent setup ≡ true
