-- What the questions of a setup and of a carrier come to at each of their returns.
use Rattle.base.proofs.Prelude.{◌≡◌, refl, sym, ap, ◌∙◌, Bool, true, false, ℕ, ◌<◌, ◌≤◌, arith}
use Rattle.base.proofs.{Test.{told_no, told_yes}, Chain.{all_yes, is_refused, has_passed}}
use lib.IntN.{ℤ}
use mir.{Syntax.w32, Val.{SFits, to_z, of_z}, ValLaws.to_z-of_z}
use Rattle.base.specs.Answer.{Answer, accepted, refused, ask, refusal_of}
use Rattle.refusal.specs.{declared.Refusal.Refusal, Refusal.number_of}
use Rattle.refusal.proofs.Asked.{number_ne0, asked_yes}
use Rattle.carriers.specs.{declared.Band.Band, Band.carrier_of}
use Rattle.carriers.proofs.Guards.{carrier_lt}
use Rattle.centre.specs.Centre.{in_range, on_row}
use Rattle.modes.specs.{Setup.Setup, Mode.band, Question.{is_mode, is_size, is_cell, is_lent, ask_setup, is_carrier}}
use Rattle.modes.specs.Model.{refusal_at, setup_refusal, Ranged, Valid}
use Rattle.modes.proofs.{Accept.{ranged_by, setup_questions}, ByMode.few, Whole.{band_law, centred}}

pub now_ranged : (c : Setup) → 0 ≡ setup_refusal c → Ranged c
unfolding refusal_at is_mode is_size is_cell
now_ranged c e = let y = all_yes (setup_questions c) tt (sym e) in ranged_by c y.0 y.1.0 y.1.1.0

-- and with question 20
pub now_valid : (c : Setup) → 0 ≡ setup_refusal c → (t : Bool) → t ≡ is_lent c → (x : Unit {0}) → accepted x ≡ ask t 20 (accepted tt) → Valid c
now_valid c e t f x y = record { ranged = now_ranged c e; is-lent = told_yes t f (asked_yes t 20 x y) }

-- questions 1, 2 and 3 before what comes after them, by what the function that puts them says
module _ {A : Type 0} (c : Setup) (rest : Answer A) where
  pub refuses : (e : Refusal) → number_of e ≡ setup_refusal c → refused (number_of e) ≡ ask_setup c rest
  unfolding refusal_at is_mode is_size is_cell
  refuses e f = is_refused (setup_questions c) tt rest (number_of e) f (number_ne0 e)

  pub lets_pass : 0 ≡ setup_refusal c → (a : Answer A) → a ≡ rest → a ≡ ask_setup c rest
  unfolding refusal_at is_mode is_size is_cell
  lets_pass e a f = f ∙ has_passed (setup_questions c) tt rest 0 e refl

  -- the same of its number
  pub setup_no : (e : Refusal) → number_of e ≡ setup_refusal c → number_of e ≡ refusal_of (ask_setup c rest)
  setup_no e f = ap refusal_of (refuses e f)

  pub setup_then : 0 ≡ setup_refusal c → (n : ℕ) → n ≡ refusal_of rest → n ≡ refusal_of (ask_setup c rest)
  setup_then e n f = f ∙ ap refusal_of (lets_pass e rest refl)

-- what counting from DC asks, and what it gives
pub size_few : {c : Setup} → Ranged c → c.size ≤ 65536
size_few v = omega (arith, few v)

pub column_below : {c : Setup} → Ranged c → (b : Band) → b ≡ band c → (u : ℕ) → u < (band c).used → (column : ℕ) → column ≡ carrier_of b u → column < c.size
column_below {c} v b e u h column f = rw (f, e) (carrier_lt (band c) c.size (band_law v) u h)

-- the range is asked of what the machine reads, which is the carrier
pub carrier_in : (size : ℕ) (k : ℤ) (t : Bool) → t ≡ in_range size (to_z w32 (of_z w32 k)) → t ≡ true → in_range size (to_z w32 (of_z w32 k)) ≡ true
carrier_in size k t g yes' = sym g ∙ yes'

module _ (c : Setup) (k : ℤ) (fits : SFits w32 k) (t : Bool) (g : t ≡ in_range c.size (to_z w32 (of_z w32 k))) where
  pub carrier_same : t ≡ is_carrier c k
  unfolding is_carrier
  carrier_same = g ∙ ap (in_range c.size) (to_z-of_z w32 k fits)

  pub carrier_no : t ≡ false → is_carrier c k ≡ false
  carrier_no = told_no t carrier_same

  pub carrier_yes : t ≡ true → is_carrier c k ≡ true
  carrier_yes = told_yes t carrier_same

  module _ (yes' : t ≡ true) (column : ℕ) (f : column ≡ on_row c.size (to_z w32 (of_z w32 k))) where
    pub column-in : Ranged c → column < c.size
    column-in v = rw f ((centred v).0.column_lt _ (carrier_in _ k t g yes'))
