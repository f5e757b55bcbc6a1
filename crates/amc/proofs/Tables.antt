-- The sequence P against its rule: document 004's list holds the powers of 22, which is computed once; they are the 48 elements other than zero, and `positions` says where each stands, by tests of the list.
use Rattle.base.proofs.{Prelude.{◌≡◌, refl, sym, ap, ◌∙◌, ℕ, zero, suc, ◌*◌, ◌+◌, ◌-◌, ◌/◌, ◌%◌, ◌<◌, arith, eqb, ltb, eqb→eq, ltb→lt}, Table.all_at}
use Rattle.base.proofs.Tabulate.{entry_of}
use Rattle.base.specs.{Steps.entry, Tabulate.tabulate}
use Rattle.amc.specs.{Table.{sequence_digits, positions}, Element.{Element, element, base_seven, times, sequence}}
use Rattle.amc.proofs.Digit.{Proper, same_number, number_lt}

-- an entry as document 004 prints it, two digits
abbrev pub printed : ℕ → Element
printed i = element (entry sequence_digits i / 16) (entry sequence_digits i % 16)

-- document 004's list is the powers of 22, and no more
pub printed_list : sequence_digits ≡ tabulate 48 (λ i. (sequence i).high * 16 + (sequence i).low)
unfolding tabulate times sequence
printed_list = refl

-- the digits of each power are 0..6, since a product's are
sequence_proper : (i : ℕ) → Proper (sequence i)
unfolding times sequence
sequence_proper zero = omega arith
sequence_proper (suc i) = omega arith

-- of entry i: document 004's digits are those of the power of 22, proper and not zero, and its position is i
pub record Power (i : ℕ) : Type 0 where
  pub printed_is : printed i ≡ sequence i
  pub proper : Proper (sequence i)
  pub nonzero : base_seven (sequence i) ≡ 0 → ⊥
  pub position : entry positions (base_seven (sequence i)) ≡ i

pub powers : (i : ℕ) → i < 48 → Power i
powers i h =
    let proper = sequence_proper i in
    let digits = entry_of sequence_digits 48 (λ k. (sequence k).high * 16 + (sequence k).low) printed_list i h in
    let high : entry sequence_digits i / 16 ≡ (sequence i).high = omega (arith, digits, proper) in
    let low : entry sequence_digits i % 16 ≡ (sequence i).low = omega (arith, digits, proper) in
    let printed_is : printed i ≡ sequence i = λ d. element (high d) (low d) in
    record {
      printed_is = printed_is;
      proper = proper;
      nonzero = λ e. omega (arith, digits, ltb→lt 0 (entry sequence_digits i) (all_at (λ k. ltb 0 (entry sequence_digits k)) 48 tt i h));
      position = rw (← printed_is) (eqb→eq _ _ (all_at (λ k. eqb (entry positions (base_seven (printed k))) k) 48 tt i h));
    }

-- every element has a position, and every one other than zero stands there
pub position_lt : (x : ℕ) → x < 49 → entry positions x < 48
position_lt x h = ltb→lt (entry positions x) 48 (all_at (λ k. ltb (entry positions k) 48) 49 tt x h)

pub at_position : (e : Element) → Proper e → (base_seven e ≡ 0 → ⊥) → sequence (entry positions (base_seven e)) ≡ e
at_position e p ne =
    let less : base_seven e - 1 + 1 ≡ base_seven e = omega arith in
    let power = powers (entry positions (base_seven e)) (position_lt (base_seven e) (number_lt e p)) in
    let there = all_at (λ k. eqb (base_seven (printed (entry positions (k + 1)))) (k + 1)) 48 tt (base_seven e - 1) (omega (arith, number_lt e p)) in
    same_number _ _ power.proper p (ap base_seven (sym power.printed_is) ∙ eqb→eq _ _ (rw less at there))
