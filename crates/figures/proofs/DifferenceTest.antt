-- Differences of entries of P, by a test that is computed over document 004's list.
use Rattle.base.proofs.{Prelude.{◌≡◌, sym, ap₂, ◌∙◌, Bool, ℕ, suc, ◌+◌, ◌%◌, ◌<◌, arith, eqb, eqb→eq}, Table.{all, all_at}}
use Rattle.base.specs.Steps.{entry}
use Rattle.amc.specs.{Table.positions, Element.{Element, base_seven, subtract, sequence}}
use Rattle.amc.proofs.Tables.{printed, powers}

-- where the difference of two elements stands in P
apart : Element → Element → ℕ
apart x y = entry positions (base_seven (subtract x y))

-- that of entries 0 and d
pub distance : ℕ → ℕ
distance d = apart (printed 0) (printed d)

-- The difference of two entries turns with them: 48 entries, at each of 47 distances.
turns : ℕ → ℕ → Bool
turns d i = eqb (apart (printed i) (printed ((i + suc d) % 48))) ((i + distance (suc d)) % 48)

pub difference : (d i : ℕ) → d < 47 → i < 48
    → entry positions (base_seven (subtract (sequence i) (sequence ((i + suc d) % 48)))) ≡ (i + distance (suc d)) % 48
unfolding turns distance apart subtract
difference d i hd hi =
    ap₂ apart (sym (powers i hi).printed_is) (sym (powers ((i + suc d) % 48) (omega arith)).printed_is)
    ∙ eqb→eq _ _ (all_at (turns d) 48 (all_at (λ e. all (turns e) 48) 47 tt d hd) i hi)
