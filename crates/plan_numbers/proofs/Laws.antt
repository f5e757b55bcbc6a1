-- Rows of numbers and places, one after the other, and that the numbers of a plan that was read fit into 32 bits.
use Rattle.base.proofs.Prelude.{◌≡◌, refl, sym, ap, ◌∙◌, List, [], ◌∷◌, ◌++◌, ℕ, ◌+◌, ◌*◌, ◌<◌, ◌≤◌, arith, length, take, get_or, set, length-set}
use Rattle.base.proofs.Tabulate.{WrittenAt, at_next, all_written}
use native.Mathlib.Numerals.{add-one, add-two, add-three}
use lib.Seq.{take_all, sets-eq}
use Rattle.base.specs.Answer.{accepted}
use Rattle.text.specs.Text.{put}
use Rattle.text.proofs.Laws.{take_put}
use Rattle.zone.specs.{declared.Zone.Zone, Zone.{values_of, unused}, Model.Small}
use Rattle.plan.specs.{declared.Plan.Plan, Plan.each}
use Rattle.plan_read.specs.Read.{plan_of}
use Rattle.plan.proofs.{Judge.{all_small, count_most, size_small}, Each.each_more}
use Rattle.plan_write.proofs.Round.{plan-of}
use Rattle.plan_numbers.specs.{Numbers.{numbers_of, place_in, places_in}, Model.AllSmall}

four : (l : List ℕ) (i a b c d : ℕ) → i + 4 ≤ length l → take (i + 4) (set (set (set (set l i a) (i + 1) b) (i + 2) c) (i + 3) d) ≡ take i l ++ (a ∷ b ∷ c ∷ d ∷ [])
unfolding put
four l i a b c d h = rw (add-one, add-two, add-three) (ap (take (i + 4)) (sets-eq (a ∷ b ∷ c ∷ d ∷ []) l i h) ∙ take_put l i (a ∷ b ∷ c ∷ d ∷ []) (omega arith))

-- While numbers are laid out: those of the first k zones are.
pub record Row (zones : List Zone) (numbers : List ℕ) (k : ℕ) : Type 0 where
  pub places : length zones ≡ 8
  pub room : length numbers ≡ 32
  pub small : AllSmall zones
  pub done : take (4 * k) numbers ≡ numbers_of (take k zones)

pub row_begin : (zones : List Zone) (numbers : List ℕ) → length zones ≡ 8 → length numbers ≡ 32 → AllSmall zones → Row zones numbers 0
unfolding each
row_begin zones numbers p r a = record { places = p; room = r; small = a; done = refl }

module _ {zones : List Zone} {numbers : List ℕ} {k : ℕ} (f : Row zones numbers k) where
  pub now_small : Small (get_or zones k unused)
  now_small = f.small k

  pub row_again : k < 8 → (z : Zone) → z ≡ get_or zones k unused → Row zones (set (set (set (set numbers (4 * k) z.mode) (4 * k + 1) z.cell) (4 * k + 2) z.slots) (4 * k + 3) z.mask) (k + 1)
  row_again h z e =
      let next : 4 * (k + 1) ≡ 4 * k + 4 = omega arith in
      record {
        places = f.places;
        room = simp length-set f.room;
        small = f.small;
        done =
            rw next
            (four numbers (4 * k) z.mode z.cell z.slots z.mask (omega (arith, f.room))
            ∙ ap (λ l. l ++ values_of z) f.done
            ∙ rw e (sym (each_more values_of unused zones k (omega (arith, f.places)))));
      }

  pub row_end : 8 ≤ k → numbers ≡ numbers_of zones
  row_end h = sym (take_all (4 * k) numbers (omega (arith, f.room))) ∙ f.done ∙ ap numbers_of (take_all k zones (omega (arith, f.places)))

-- While places are taken: the first k are.
abbrev pub Placing : (numbers : List ℕ) (zones : List Zone) (k : ℕ) → Type 0
Placing numbers zones k = WrittenAt unused 8 8 (λ j. j) (place_in numbers) zones k

module _ (numbers : List ℕ) {zones : List Zone} {k : ℕ} (p : Placing numbers zones k) where
  pub placing_again : {m c n b : ℕ} → k < 8 → m ≡ get_or numbers (4 * k) 0 → c ≡ get_or numbers (4 * k + 1) 0 → n ≡ get_or numbers (4 * k + 2) 0 → b ≡ get_or numbers (4 * k + 3) 0
      → Placing numbers (set zones k (record { mode = m; cell = c; slots = n; mask = b })) (k + 1)
  placing_again h e₁ e₂ e₃ e₄ = at_next p h h (λ j l q. omega arith) _ cc

  pub placing_end : 8 ≤ k → zones ≡ places_in numbers
  unfolding places_in
  placing_end h = all_written p h

-- The numbers of a plan that was read are small.
pub record Read-small (p : Plan) : Type 0 where
  pub count_is : p.count ≤ 8
  pub size_is : p.size ≤ 2048
  pub zones_are : AllSmall p.zones

pub read_small : (s : List ℕ) {p : Plan} → accepted p ≡ plan_of s → Read-small p
read_small s {p} e =
    let t = plan-of s (sym e) in
    record { count_is = count_most p.count t.fit.count_is; size_is = size_small p.size t.fit.size_is; zones_are = all_small t.fit t.eight }
