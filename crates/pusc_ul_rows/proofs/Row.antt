-- The carriers of a subchannel, eight for each tile.
use Rattle.base.proofs.Prelude.{◌≡◌, ap, ◌∙◌, false, List, ℕ, ◌+◌, ◌*◌, ◌/◌, ◌%◌, ◌<◌, ◌≤◌, arith, eqb, ltb, length, set, replicate, length-set}
use Rattle.base.proofs.Prelude.{length-replicate, eqb-true, eqb-false, ltb-true, ltb-false}
use Rattle.base.proofs.{Test.cases, Tabulate.{tabulated, written_none, written_next, written_starts}, LeaveOut.{skip_below, skip_above, skip_le}}
use lib.Seq.{get_or-set_same, get_or-set_other}
use Rattle.base.specs.{Steps.entry, Tabulate.tabulate}
use Rattle.carriers.specs.{Band.{pusc_band, carrier_of}, Model.carrier_number}
use Rattle.pusc_ul.specs.{Table.tile_permutation, Tile.{tile_of, is_tile_pilot, place_tile, data_place}, Map.spot_of, Model.tile_of_seventy}
use Rattle.pusc_ul_rows.specs.Model.{place_number, tile_start, put_two}
use Rattle.pusc_ul.proofs.Place.{on_carrier, on_place}

-- index m is on data place (m+13s) mod 48
pub number_on_place : (cell s m : ℕ) → place_number cell s ((m + 13 * s % 48) % 48) ≡ carrier_number 2048 pusc_band (spot_of cell s m)
unfolding place_number spot_of
number_on_place cell s m = ap (place_number cell s) (omega arith)

-- seventy tiles lie on one side of DC
seventy : (t x w : ℕ) → t < 6 → x < 70 → w < 4 → carrier_of pusc_band ((t * 70 + x) * 4 + w) ≡ x * 4 + carrier_of pusc_band (t * 280) + w
unfolding carrier_of
seventy t x w ht hx hw =
    cases (ltb t 3)
    (λ e. let l = ltb-true t 3 e in
    rw (skip_below 840 ((t * 70 + x) * 4 + w) (omega arith), skip_below 840 (t * 280) (omega arith)) (omega arith))
    (λ e. let l = ltb-false t 3 e in
    rw (skip_above 840 ((t * 70 + x) * 4 + w) (omega arith), skip_above 840 (t * 280) (omega arith)) (omega arith))

-- x and the next number are those of pair j of a row
abbrev pub Two : (f : ℕ → ℕ) (j x : ℕ) → Type 0
Two f j x = (x ≡ f (j * 2)) × (x + 1 ≡ f (j * 2 + 1))

-- the numbers on data carriers of tile t in symbol o of the slot
module _ (cell s t : ℕ) (ht : t < 6) where
  number_of : (q o c x : ℕ) → q ≡ data_place o t c → o < 3 → c < 4 → is_tile_pilot o c ≡ false → x ≡ tile_start cell s t + (o * 2048 + c) → x ≡ place_number cell s q
  unfolding place_number tile_of tile_of_seventy tile_start
  number_of q o c x e ho hc np v =
      let p = on_place o t c ho ht hc np in
      rw (e, p.symbol, p.tile, p.carrier)
      (v ∙ omega (arith, seventy t ((entry tile_permutation ((s + t) % 70) + cell) % 70) c ht (omega arith) hc))

  -- carriers c and c + 1
  pub two_of : (o c j x : ℕ) → j * 2 ≡ data_place o t c → j * 2 + 1 ≡ data_place o t (c + 1) → o < 3 → c < 3 → is_tile_pilot o c ≡ false → is_tile_pilot o (c + 1) ≡ false
      → x ≡ tile_start cell s t + (o * 2048 + c) → Two (place_number cell s) j x
  two_of o c j x e e' ho hc np np' v =
      (number_of (j * 2) o c x e ho (omega arith) np v, number_of (j * 2 + 1) o (c + 1) (x + 1) e' ho (omega arith) np' (omega arith))

-- what is known of a row: its entries at some places
pub record Known (f : ℕ → ℕ) (at : ℕ → Type 0) (l : List ℕ) : Type 0 where
  pub long : length l ≡ 48
  pub entries : (k : ℕ) → k < 48 → at k → entry l k ≡ f k

-- one more is written, or a pair
known_more : {f : ℕ → ℕ} {at : ℕ → Type 0} {l : List ℕ} (q x : ℕ) → q < 48 → x ≡ f q → Known f (λ k. at k × (k ≡ q → ⊥)) l → Known f at (set l q x)
known_more {f = f} {at = at} {l = l} q x h e w =
    record {
      long = length-set l q x ∙ w.long;
      entries = λ k k_lt a.
          cases (eqb k q)
          (λ b. let same = eqb-true k q b in rw same (get_or-set_same l q x 0 (omega (arith, w.long)) ∙ e))
          (λ b. let other = eqb-false k q b in get_or-set_other l q k x 0 other ∙ w.entries k k_lt (a, other));
    }

known_two : {f : ℕ → ℕ} {at : ℕ → Type 0} {l : List ℕ} (j x : ℕ) → j < 24 → Two f j x → Known f (λ k. at k × (k / 2 ≡ j → ⊥)) l → Known f at (put_two l j x)
unfolding put_two
known_two {l = l} j x h e w =
    known_more (j * 2 + 1) (x + 1) (omega arith) e.1
    (known_more {l = l} (j * 2) x (omega arith) e.0
    (record { long = w.long; entries = λ k k_lt a. w.entries k k_lt (a.0.0, let n = a.0.1 in let m = a.1 in λ q. omega arith) }))

-- what is in none of the four pairs of tile t is on an earlier tile, or a later one
no_other : (t k : ℕ) → (k / 2 ≡ t → ⊥) → (k / 2 ≡ t * 2 + 6 → ⊥) → (k / 2 ≡ t * 2 + 7 → ⊥) → (k / 2 ≡ t + 18 → ⊥) → place_tile k < t + 1 → place_tile k < t
unfolding place_tile
no_other t k n₁ n₂ n₃ n₄ =
    cases (ltb k 12)
    (λ e. rw e (λ b. omega arith))
    (λ e. cases (ltb k 36)
    (λ e'. rw (e, e') (λ b. let l = ltb-false k 12 e in omega arith))
    (λ e'. rw (e, e') (λ b. let l = ltb-false k 36 e' in omega arith)))

-- what holds before each turn: the data places of the first t tiles are written
abbrev pub TileTurn : (f : ℕ → ℕ) (row : List ℕ) (t : ℕ) → Type 0
TileTurn f row t = Known f (λ k. place_tile k < t) row

pub tiles_none : (f : ℕ → ℕ) → TileTurn f (replicate 48 0) 0
tiles_none f = record { long = length-replicate {A = ℕ} 48 0; entries = λ k k_lt a. absurd (omega arith) }

pub tiles_next : {f : ℕ → ℕ} {row : List ℕ} {t : ℕ} → TileTurn f row t → t < 6
    → (x₁ x₂ x₃ x₄ : ℕ) → Two f t x₁ → Two f (t * 2 + 6) x₂ → Two f (t * 2 + 7) x₃ → Two f (t + 18) x₄
    → TileTurn f (put_two (put_two (put_two (put_two row t x₁) (t * 2 + 6) x₂) (t * 2 + 7) x₃) (t + 18) x₄) (t + 1)
tiles_next {f = f} {row = row} {t = t} w h x₁ x₂ x₃ x₄ e₁ e₂ e₃ e₄ =
    known_two (t + 18) x₄ (omega arith) e₄
    (known_two (t * 2 + 7) x₃ (omega arith) e₃
    (known_two (t * 2 + 6) x₂ (omega arith) e₂
    (known_two {l = row} t x₁ (omega arith) e₁
    (record { long = w.long; entries = λ k k_lt a. w.entries k k_lt (no_other t k a.1 a.0.1 a.0.0.1 a.0.0.0.1 a.0.0.0.0) }))))

pub tiles_all : {f : ℕ → ℕ} {row : List ℕ} {t : ℕ} → TileTurn f row t → 6 ≤ t → row ≡ tabulate 48 f
tiles_all {f = f} {row = row} w h = tabulated 0 row 48 f w.long (λ k k_lt. w.entries k k_lt (omega (arith, (on_carrier k k_lt).tile_lt)))

-- the first carriers of the tiles are small
pub start_lt : (t : ℕ) → t < 6 → carrier_of pusc_band (t * 280) < 2048
unfolding carrier_of
start_lt t h = omega (arith, skip_le 840 (t * 280))

-- a loop that writes a row from its first entry on
pub ruleset written = (written_none, written_next, written_starts)
