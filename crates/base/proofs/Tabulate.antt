-- A tabulated list has its length and its entries, and is the only list that has them; and a loop that writes one entry a turn.
use Rattle.base.proofs.Prelude.{◌≡◌, refl, sym, ap, ◌∙◌, subst, List, ℕ, zero, suc, ◌+◌, ◌-◌, ◌%◌, ◌<◌, ◌≤◌, arith, length, get_or, set}
use Rattle.base.proofs.Prelude.{replicate, length-set, length-replicate}
use native.Mathlib.Nat.{le_of_suc-le-suc, not-suc-le-zero}
use lib.Seq.{get_or-set_same, get_or-set_other, ext_get_or}
use borrow.Author.Count.{below_none, below_more}
use Rattle.base.specs.{Steps.entry, Tabulate.tabulate, Model.{Starts, Below, Turned}}

pub length_tabulate : {A : Type 0} (n : ℕ) (f : ℕ → A) → length (tabulate n f) ≡ n
unfolding tabulate
length_tabulate zero f = refl
length_tabulate (suc n) f = ap suc (length_tabulate n (λ k. f (suc k)))

pub get_d_tabulate : {A : Type 0} (n : ℕ) (f : ℕ → A) (k : ℕ) (d : A) → k < n → get_or (tabulate n f) k d ≡ f k
unfolding tabulate
get_d_tabulate zero f k d h = absurd (not-suc-le-zero h)
get_d_tabulate (suc n) f zero d h = refl
get_d_tabulate (suc n) f (suc k) d h = get_d_tabulate n (λ j. f (suc j)) k d (le_of_suc-le-suc h)

pub entry_of : (l : List ℕ) (n : ℕ) (f : ℕ → ℕ) → l ≡ tabulate n f → (k : ℕ) → k < n → entry l k ≡ f k
entry_of l n f e k h = ap (λ (t : List ℕ). entry t k) e ∙ get_d_tabulate n f k 0 h

pub tabulated : {A : Type 0} (d : A) (l : List A) (n : ℕ) (f : ℕ → A) → length l ≡ n → ((k : ℕ) → k < n → get_or l k d ≡ f k) → l ≡ tabulate n f
tabulated d l n f e h =
    ext_get_or d l (tabulate n f) (e ∙ sym (length_tabulate n f))
    (λ k l'. let lt : k < n = rw (← e) l' in h k lt ∙ sym (get_d_tabulate n f k d lt))

-- A list of `size` entries into which f 0, f 1, .. are written at their places, m of these n so far: what holds before each turn of a loop that
-- writes one entry a turn.
pub record WrittenAt {A : Type 0} (d : A) (size n : ℕ) (place : ℕ → ℕ) (f : ℕ → A) (l : List A) (m : ℕ) : Type 0 where
  pub within : m ≤ n
  pub long : length l ≡ size
  pub entries : (k : ℕ) → k < m → get_or l (place k) d ≡ f k

-- The same over a list of before, of which all else stays.
pub record WrittenOver {A : Type 0} (d : A) (size n : ℕ) (place : ℕ → ℕ) (f : ℕ → A) (before l : List A) (m : ℕ) : Type 0 where
  pub written : WrittenAt d size n place f l m
  pub others : (p : ℕ) → ((k : ℕ) → k < m → p ≡ place k → ⊥) → get_or l p d ≡ get_or before p d

module _ {A : Type 0} {d : A} {size n : ℕ} {place : ℕ → ℕ} {f : ℕ → A} where
  pub at_none : {l : List A} → length l ≡ size → WrittenAt d size n place f l 0
  at_none e = record { within = omega arith; long = e; entries = below_none _ }

  pub at_next : {l : List A} {m : ℕ} → WrittenAt d size n place f l m → m < n → place m < size → ((k : ℕ) → k < m → place k ≡ place m → ⊥)
      → (x : A) → x ≡ f m → WrittenAt d size n place f (set l (place m) x) (m + 1)
  at_next {l} {m} w h room apart x e =
      record {
        within = omega arith;
        long = length-set l (place m) x ∙ w.long;
        entries = below_more (λ k. get_or (set l (place m) x) (place k) d ≡ f k) m
            (λ k k_lt. get_or-set_other l (place m) (place k) x d (apart k k_lt) ∙ w.entries k k_lt)
            (get_or-set_same l (place m) x d (omega (arith, w.long)) ∙ e);
      }

  pub over_none : {before : List A} → length before ≡ size → WrittenOver d size n place f before before 0
  over_none e = record { written = at_none e; others = λ p h. refl }

  pub over_next : {before l : List A} {m : ℕ} → WrittenOver d size n place f before l m → m < n → place m < size → ((k : ℕ) → k < m → place k ≡ place m → ⊥)
      → (x : A) → x ≡ f m → WrittenOver d size n place f before (set l (place m) x) (m + 1)
  over_next {l = l} {m = m} w h room apart x e =
      record {
        written = at_next w.written h room apart x e;
        others = λ p h'. get_or-set_other l (place m) p x d (h' m (omega arith)) ∙ w.others p (λ k k_lt. h' k (omega arith));
      }

pub all_written : {A : Type 0} {d : A} {n : ℕ} {f : ℕ → A} {l : List A} {m : ℕ} → WrittenAt d n n (λ k. k) f l m → n ≤ m → l ≡ tabulate n f
all_written {d = d} {n = n} {f = f} {l = l} w h = tabulated d l n f w.long (λ k k_lt. w.entries k (omega (arith, w.within)))

-- a list of n numbers that is written from its first to its last
abbrev pub Written : (n : ℕ) (f : ℕ → ℕ) (l : List ℕ) (m : ℕ) → Type 0
Written n f l m = WrittenAt 0 n n (λ k. k) f l m

pub written_none : (n : ℕ) (f : ℕ → ℕ) → Written n f (replicate n 0) 0
written_none n f = at_none (length-replicate n 0)

pub written_next : {n : ℕ} {f : ℕ → ℕ} {l : List ℕ} {m : ℕ} → Written n f l m → m < n → (x : ℕ) → x ≡ f m → Written n f (set l m x) (m + 1)
written_next w h x e = at_next w h h (λ k l q. omega arith) x e

pub written_all : {n : ℕ} {f : ℕ → ℕ} {l : List ℕ} {m : ℕ} → Written n f l m → n ≤ m → l ≡ tabulate n f
written_all w h = all_written w h

-- the first entries, where the loop ends before the list does
pub written_starts : {n : ℕ} {f : ℕ → ℕ} {l : List ℕ} {m : ℕ} → Written n f l m → (k : ℕ) → k ≤ m → Starts k f l
written_starts w k h j j-lt = w.entries j (omega arith)

pub starts_as : {n n' : ℕ} {f g : ℕ → ℕ} (l : List ℕ) → Starts n f l → n ≡ n' → ((k : ℕ) → f k ≡ g k) → Starts n' g l
starts_as l s e h k k_lt = s k (rw e k_lt) ∙ h k

-- a row shifted round: by the entries of another row, and by the place
pub turned_row : (by : ℕ) (f g : ℕ → ℕ) (row : List ℕ) → row ≡ tabulate 48 g → ((m : ℕ) → m < 48 → g ((m + by) % 48) ≡ f m) → Turned by f row
turned_row by f g row e h m m-lt = entry_of row 48 g e ((m + by) % 48) (omega arith) ∙ h m m-lt

pub turned_by : (by : ℕ) (f : ℕ → ℕ) (g : ℕ → ℕ) (row row' : List ℕ) → Turned by f row → row' ≡ tabulate 48 (λ k. g (entry row k)) → Turned by (λ m. g (f m)) row'
turned_by by f g row row' t e m h = entry_of row' 48 (λ k. g (entry row k)) e ((m + by) % 48) (omega arith) ∙ ap g (t m h)

pub turned_below : (by limit : ℕ) (f : ℕ → ℕ) (row : List ℕ) → by < 48 → Turned by f row → ((m : ℕ) → m < 48 → f m < limit) → Below 48 limit row
turned_below by limit f row hb t lt k h =
    let m = (k + (48 - by)) % 48 in
    let e : (m + by) % 48 ≡ k = omega arith in
    subst (λ (q : ℕ). entry row q < limit) e (rw (t m (omega arith)) (lt m (omega arith)))
