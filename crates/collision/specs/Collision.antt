-- Document 01, "Meetings", whose marks are the hits. In optional FUSC one subchannel of a cell is compared with one of a second cell, group by group; in AMC the same index under two cells, index by index.
use Rattle.std.specs.Prelude.{Bool, false, List, [], ◌∷◌, ℕ, ◌+◌, ◌*◌, eqb, Result, Ok, Err}
use Rattle.base.specs.Choice.{pick}
use Rattle.base.specs.Answer.{Answer, accepted, refused, ask}
use Rattle.base.specs.Steps.{unrotate}
use Rattle.base.specs.Tabulate.{tabulate}
use Rattle.carriers.specs.Band.{carrier_of}
use Rattle.amc.specs.Map.{traffic}
use Rattle.modes.specs.Setup.{Setup, setup_with}
use Rattle.modes.specs.Mode.{band}
use Rattle.formulas.specs.Formula.{spot_of}
use Rattle.modes.specs.Question.{is_four_sizes, is_cell, is_subchannel}
use Rattle.refusal.specs.{declared.Refusal.Refusal, Refusal.number_of}
use Rattle.collision.specs.declared.Collisions.{Collisions}

-- The answer to a request: the first refusal's number, or 0; the 48 marks; how many are set.
pub record Meetings : Type 0 where
  pub refusal : ℕ
  pub hits : List Bool
  pub count : ℕ

-- how many marks are set
unfoldable pub count_of : (hits : List Bool) → ℕ
count_of [] = 0
count_of (hit ∷ hits) = pick hit 1 0 + count_of hits

-- Each subchannel has one point in group k: that of index m with k = (m+23s) mod 48, which is (k-23s) mod 48 (this index and no other: `a_index` of `Figures`).
unfoldable pub index_in : (s k : ℕ) → ℕ
index_in s k = unrotate 48 (23 * s) k

-- the carrier of that point, in the symbol of a slot, by its column on the row: two carriers are the same just where their columns are
unfoldable pub column_in : (setup : Setup) (slot s k : ℕ) → ℕ
column_in setup slot s k = carrier_of (band setup) (spot_of setup slot s (index_in s k)).used

-- Spread: the group is marked exactly when both subchannels have the same carrier there. The answer is the same for every symbol, so symbol 0 is looked at.
unfoldable pub ofusc_hit : (size a s b t k : ℕ) → Bool
ofusc_hit size a s b t k = eqb (column_in (setup_with 2 size a) 0 s k) (column_in (setup_with 2 size b) 0 t k)

-- Adjacent: 48 marks, one an index, set exactly when both cells give the same v.
unfoldable pub amc_hit : (a b j : ℕ) → Bool
amc_hit a b j = eqb (traffic a j) (traffic b j)

-- The answer is 48 marks and their count; a no gives the number, with marks and count all zero.
unfoldable pub answer_of : (answer : Answer (ℕ → Bool)) → Meetings
answer_of (accepted hit) = record { refusal = 0; hits = tabulate 48 hit; count = count_of (tabulate 48 hit) }
answer_of (refused number) = record { refusal = number; hits = tabulate 48 (λ k. false); count = 0 }

-- What a result of the code says: 0 with its marks and their count, or its refusal's number with no mark.
abbrev pub met : (result : Result Collisions Refusal) → Meetings
met (Ok c) = record { refusal = 0; hits = c.hits; count = c.count }
met (Err e) = record { refusal = number_of e; hits = tabulate 48 (λ k. false); count = 0 }

-- Spread: size, cell and subchannel twice. The questions are put as for mode 2: it has 2, 3 and 5.
unfoldable pub ofusc_of : (size a s b t : ℕ) → Meetings
ofusc_of size a s b t =
    answer_of
    (ask (is_four_sizes size) 2
    (ask (is_cell (setup_with 2 size a)) 3
    (ask (is_cell (setup_with 2 size b)) 3
    (ask (is_subchannel (setup_with 2 size a) s) 5
    (ask (is_subchannel (setup_with 2 size b) t) 5
    (accepted (ofusc_hit size a s b t)))))))

-- Adjacent: two cells. Only question 3 is put, as for mode 3, whose cells are the same at every size, and those of modes 4 to 6 (document 02, wish 2).
unfoldable pub amc_of : (a b : ℕ) → Meetings
amc_of a b =
    answer_of
    (ask (is_cell (setup_with 3 2048 a)) 3
    (ask (is_cell (setup_with 3 2048 b)) 3
    (accepted (amc_hit a b))))
