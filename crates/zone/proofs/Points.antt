-- The modes of document 02, and those of AMC among them.
use Rattle.base.proofs.Prelude.{◌≡◌, refl, true, ℕ, zero, suc, ◌≤◌, arith}
use Rattle.modes.specs.Mode.{is_amc}
use Rattle.zone.specs.{declared.Zone.Zone, Zone.is_following}

-- a mode from 2 to 7, and one of AMC's, by cases
pub by-mode : (P : ℕ → Type 0) → P 2 → P 3 → P 4 → P 5 → P 6 → P 7 → (mode : ℕ) → 2 ≤ mode → mode ≤ 7 → P mode
by-mode P a b c d e f zero h l = absurd (omega arith)
by-mode P a b c d e f (suc zero) h l = absurd (omega arith)
by-mode P a b c d e f (suc (suc zero)) h l = a
by-mode P a b c d e f (suc (suc (suc zero))) h l = b
by-mode P a b c d e f (suc (suc (suc (suc zero)))) h l = c
by-mode P a b c d e f (suc (suc (suc (suc (suc zero))))) h l = d
by-mode P a b c d e f (suc (suc (suc (suc (suc (suc zero)))))) h l = e
by-mode P a b c d e f (suc (suc (suc (suc (suc (suc (suc zero))))))) h l = f
by-mode P a b c d e f (suc (suc (suc (suc (suc (suc (suc (suc mode)))))))) h l = absurd (omega arith)

pub by_amc : (P : ℕ → Type 0) → P 3 → P 4 → P 5 → P 6 → (mode : ℕ) → 3 ≤ mode → mode ≤ 6 → P mode
by_amc P b c d e mode h l =
    by-mode (λ m. 3 ≤ m → m ≤ 6 → P m) (λ h l. absurd (omega arith)) (λ h l. b) (λ h l. c) (λ h l. d) (λ h l. e) (λ h l. absurd (omega arith)) mode (omega arith) (omega arith) h l

abbrev of_mode : (mode cell slots mask : ℕ) → Zone
of_mode mode cell slots mask = record { mode = mode; cell = cell; slots = slots; mask = mask }

-- Document 02, wish 2: after one of AMC's modes, 3 to 6, any of these stands,
pub amc_follows : (m n cell slots mask : ℕ) → 3 ≤ m → m ≤ 6 → 3 ≤ n → n ≤ 6 → is_following m (of_mode n cell slots mask) ≡ true
unfolding is_following
amc_follows m n cell slots mask h l =
    by_amc (λ m. (n : ℕ) → 3 ≤ n → n ≤ 6 → is_following m (of_mode n cell slots mask) ≡ true)
    (by_amc _ refl refl refl refl) (by_amc _ refl refl refl refl) (by_amc _ refl refl refl refl) (by_amc _ refl refl refl refl) m h l n

-- and nothing else.
pub amc_only : (m : ℕ) (zone : Zone) → 3 ≤ m → m ≤ 6 → is_following m zone ≡ is_amc zone.mode
unfolding is_following
amc_only m zone = by_amc (λ m. is_following m zone ≡ is_amc zone.mode) refl refl refl refl m
