-- The words in which the planners' figures are stated.
use Rattle.std.specs.Prelude.{◌≡◌, Bool, true, false, List, ℕ, zero, suc, ◌+◌, ◌-◌, ◌*◌, ◌<◌, ◌≤◌, eqb, ℤ, get_or, take, drop}
use Rattle.base.specs.Choice.{pick}
use Rattle.base.specs.Answer.{Answer, accepted}
use Rattle.carriers.specs.Band.{bin_band, carrier_of}
use Rattle.carriers.specs.Bin.{used_of_data}
use Rattle.centre.specs.Centre.{from_dc}
use Rattle.ofusc.specs.Width.{Width}
use Rattle.map.specs.Place.{Place}
use Rattle.collision.specs.Collision.{count_of, ofusc_of}

-- a cell allowed at size 64·N, and a subchannel
pub record Allowed (n cell s : ℕ) : Type 0 where
  pub cell_lt : cell < n * n
  pub subchannel_lt : s < n

-- Demand 3: "take any of its sizes, with N subchannels, any two .. cell numbers a and b allowed there, and any subchannels s and t, equal or not".
pub record Pair (n a s b t : ℕ) : Type 0 where
  pub width : Width n
  pub first : Allowed n a s
  pub second : Allowed n b t

-- Document 01, "Meetings": group k of a symbol is its data numbers N·k to N·k+N-1. A carrier of symbol y lies there:
pub record InGroup (n y k : ℕ) (carrier : ℤ) : Type 0 where
  pub data-number : ℕ
  pub from : k * n ≤ data-number
  pub below : data-number < k * n + n
  pub lies : carrier ≡ from_dc (64 * n) (carrier_of (bin_band n) (used_of_data y data-number))

-- mark k is set
abbrev pub Marked : (hits : List Bool) (k : ℕ) → Type 0
Marked hits k = get_or hits k false ≡ true

-- Document 01: groups in a row are k, k+1 and so on, all within 0..47; as many as `many`, from group k on, as far as there are groups
abbrev pub in_row : (many k : ℕ) (hits : List Bool) → List Bool
in_row many k hits = take many (drop k hits)

-- two answers of `place` are the same place
pub record SamePlace (one other : Answer Place) : Type 0 where
  pub at : Place
  pub first : one ≡ accepted at
  pub second : other ≡ accepted at

-- some index of one subchannel and some index of another are placed on the same carrier in group k
pub record SameInGroup (n k : ℕ) (one other : ℕ → Answer Place) : Type 0 where
  pub index : ℕ
  pub index' : ℕ
  pub same : SamePlace (one index) (other index')
  pub within : InGroup n same.at.symbol k same.at.carrier

-- f added up over 0..n-1
unfoldable pub sum : (n : ℕ) (f : ℕ → ℕ) → ℕ
sum zero f = 0
sum (suc n) f = sum n f + f n

-- Demand 3: the count is at most 32, 14, 8 and 4 at sizes 256, 512, 1024 and 2048, which have N = 4, 8, 16 and 32.
unfoldable pub most : (n : ℕ) → ℕ
most n = pick (eqb n 4) 32 (pick (eqb n 8) 14 (pick (eqb n 16) 8 (pick (eqb n 32) 4 0)))

-- two different cells and subchannels of theirs that reach the 2 in some N-1 groups in a row, and the count
pub record Reached (n : ℕ) : Type 0 where
  pub a : ℕ
  pub s : ℕ
  pub b : ℕ
  pub t : ℕ
  pub row : ℕ
  pub allowed : Pair n a s b t
  pub within : row + (n - 1) ≤ 48
  pub different : a ≡ b → ⊥
  pub in-row : count_of (in_row (n - 1) row (ofusc_of (64 * n) a s b t).hits) ≡ 2
  pub in_all : (ofusc_of (64 * n) a s b t).count ≡ most n
