-- THE PLANNERS' FIGURES, as one statement: demand 3, sentence by sentence, and what document 01, "Meetings", says of one cell given twice. The letters are those of docs/FIGURES.md. Statements are about what the two calls return (`ofusc_of`, `amc_of`) and about placing (`place_of`). `Width n` says that N is 4, 8, 16 or 32; the size is 64·N. Its proof is `figures`.
use Rattle.std.specs.Prelude.{◌≡◌, ◌↔◌, ℕ, ◌-◌, ◌*◌, ◌<◌, ◌≤◌}
use Rattle.base.specs.Answer.{accepted}
use Rattle.ofusc.specs.Width.{Width}
use Rattle.amc.specs.Map.{traffic}
use Rattle.map.specs.Place.{Place, place_of}
use Rattle.modes.specs.Setup.{setup_with}
use Rattle.modes.specs.Mode.{subchannels}
use Rattle.collision.specs.Collision.{count_of, index_in, ofusc_of, amc_of}
use Rattle.figures.specs.Word.{Allowed, Pair, InGroup, Marked, in_row, SamePlace, SameInGroup, Reached, sum, most}

pub record Figures : Type 0 where
  -- Spread mode, optional FUSC. Document 01: "each subchannel has one point" in group k; it is that of index (k - 23s) mod 48, and of no other.
  pub a_index : {n : ℕ} → Width n → (cell slot s m k : ℕ) (p : Place) → k < 48 → place_of (setup_with 2 (64 * n) cell) slot s m ≡ accepted p
      → InGroup n p.symbol k p.carrier ↔ (m ≡ index_in s k)
  -- "Whatever the symbol, mark k of their meeting is set exactly when s under a and t under b are placed on the same carrier in group k."
  pub a_mark : {n a s b t : ℕ} → Pair n a s b t → (slot k : ℕ) → slot < 512 → k < 48
      → Marked (ofusc_of (64 * n) a s b t).hits k ↔ SameInGroup n k (place_of (setup_with 2 (64 * n) a) slot s) (place_of (setup_with 2 (64 * n) b) slot t)
  -- "The count is the number of marks set."
  pub a_count : (size a s b t : ℕ) → (ofusc_of size a s b t).count ≡ count_of (ofusc_of size a s b t).hits
  -- "At most 2 marks are set in any N-1 groups in a row."
  pub b_row : {n a s b t : ℕ} → Pair n a s b t → (a ≡ b → ⊥) → (k : ℕ) → count_of (in_row (n - 1) k (ofusc_of (64 * n) a s b t).hits) ≤ 2
  -- "The count is at most 32, 14, 8 and 4 at sizes 256, 512, 1024 and 2048."
  pub c_count : {n a s b t : ℕ} → Pair n a s b t → (a ≡ b → ⊥) → (ofusc_of (64 * n) a s b t).count ≤ most n
  -- "At each size some choice reaches that 2 and some choice that count."
  pub d_reached : {n : ℕ} → Width n → Reached n
  -- "For every a, b and s the counts over all t add up to 48."
  pub e_sum : {n : ℕ} → Width n → (a s b : ℕ) → Allowed n a s → b < n * n → sum n (λ t. (ofusc_of (64 * n) a s b t).count) ≡ 48
  -- Document 01: "One cell may be given twice: spread then has 48 for the same subchannel, otherwise 0".
  pub f_one_cell : {n a s t : ℕ} → Pair n a s a t
      → (s ≡ t → (ofusc_of (64 * n) a s a t).count ≡ 48) × ((s ≡ t → ⊥) → (ofusc_of (64 * n) a s a t).count ≡ 0)
  -- Adjacent mode, AMC, in every shape (document 02, wish 2): "whatever the size, slot and subchannel, mark j of their meeting is set exactly when both place index j on the same carrier of the same symbol."
  pub g_mark : (a b : ℕ) → a < 2352 → b < 2352 → (mode : ℕ) → 3 ≤ mode → mode < 7 → {n : ℕ} → Width n
      → (slot s j : ℕ) → slot < 512 → s < subchannels (setup_with mode (64 * n) a) → j < 48
      → Marked (amc_of a b).hits j ↔ SamePlace (place_of (setup_with mode (64 * n) a) slot s j) (place_of (setup_with mode (64 * n) b) slot s j)
  -- (Document 01: "set exactly when both cells give the same v".)
  pub g_v : (a b : ℕ) → a < 2352 → b < 2352 → (j : ℕ) → j < 48 → Marked (amc_of a b).hits j ↔ (traffic a j ≡ traffic b j)
  -- The count is the number of marks set.
  pub g_count : (a b : ℕ) → (amc_of a b).count ≡ count_of (amc_of a b).hits
  -- "The count is at most 3" for any two different cells.
  pub g_most : (a b : ℕ) → a < 2352 → b < 2352 → (a ≡ b → ⊥) → (amc_of a b).count ≤ 3
  -- "Some two cells have 3": 48 and 176, at indices 8, 24 and 32.
  pub g_reached : ((amc_of 48 176).count ≡ 3) × Marked (amc_of 48 176).hits 8 × Marked (amc_of 48 176).hits 24 × Marked (amc_of 48 176).hits 32
  -- Document 01: one cell given twice "has 48".
  pub g_same : (a : ℕ) → a < 2352 → (amc_of a a).count ≡ 48
