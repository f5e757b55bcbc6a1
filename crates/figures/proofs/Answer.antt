-- What the two calls answer where they accept: the marks, one by one, and their count.
use Rattle.base.proofs.{Prelude.{◌≡◌, refl, sym, ap, ◌∙◌, Bool, false, List, ℕ, ◌*◌, ◌<◌, get_or, lt-ltb}, Tabulate.get_d_tabulate}
use Rattle.base.specs.{Answer.{Answer, accepted, refused}, Tabulate.tabulate}
use Rattle.modes.specs.{Mode.{width_of, cells_of, subchannels_of}, Question.{is_cell, is_subchannel}}
use Rattle.modes.proofs.Accept.{size_passes, width_is}
use Rattle.collision.specs.Collision.{Meetings, count_of, ofusc_hit, amc_hit, answer_of, ofusc_of, amc_of}
use Rattle.figures.specs.Word.{Pair}

-- optional FUSC
module _ {n a s b t : ℕ} (p : Pair n a s b t) where
  abbrev hit : ℕ → Bool
  hit = ofusc_hit (64 * n) a s b t

  ofusc_answer : answer_of (accepted hit) ≡ ofusc_of (64 * n) a s b t
  unfolding ofusc_of is_cell is_subchannel cells_of subchannels_of width_of
  ofusc_answer =
      rw (size_passes p.width, width_is n, lt-ltb a (n * n) p.first.cell_lt, lt-ltb b (n * n) p.second.cell_lt, lt-ltb s n p.first.subchannel_lt, lt-ltb t n p.second.subchannel_lt)

  pub ofusc-hits : (ofusc_of (64 * n) a s b t).hits ≡ tabulate 48 hit
  unfolding answer_of
  ofusc-hits = sym (ap (λ (r : Meetings). r.hits) ofusc_answer)

  pub ofusc_mark : (k : ℕ) → k < 48 → get_or (ofusc_of (64 * n) a s b t).hits k false ≡ hit k
  ofusc_mark k h = ap (λ (hits : List Bool). get_or hits k false) ofusc-hits ∙ get_d_tabulate 48 hit k false h

  pub ofusc_count : (ofusc_of (64 * n) a s b t).count ≡ count_of (tabulate 48 hit)
  unfolding answer_of
  ofusc_count = sym (ap (λ (r : Meetings). r.count) ofusc_answer)

-- AMC
module _ (a b : ℕ) (ha : a < 2352) (hb : b < 2352) where
  amc_answer : answer_of (accepted (amc_hit a b)) ≡ amc_of a b
  unfolding amc_of is_cell cells_of
  amc_answer = rw (lt-ltb a 2352 ha, lt-ltb b 2352 hb)

  amc-hits : (amc_of a b).hits ≡ tabulate 48 (amc_hit a b)
  unfolding answer_of
  amc-hits = sym (ap (λ (r : Meetings). r.hits) amc_answer)

  pub amc_mark : (j : ℕ) → j < 48 → get_or (amc_of a b).hits j false ≡ amc_hit a b j
  amc_mark j h = ap (λ (hits : List Bool). get_or hits j false) amc-hits ∙ get_d_tabulate 48 (amc_hit a b) j false h

  pub amc_count : (amc_of a b).count ≡ count_of (tabulate 48 (amc_hit a b))
  unfolding answer_of
  amc_count = sym (ap (λ (r : Meetings). r.count) amc_answer)

-- the count is the number of marks set, in every answer
counted : (x : Answer (ℕ → Bool)) → (answer_of x).count ≡ count_of (answer_of x).hits
unfolding answer_of tabulate count_of
counted (accepted hit) = refl
counted (refused k) = refl

pub ofusc_counted : (size a s b t : ℕ) → (ofusc_of size a s b t).count ≡ count_of (ofusc_of size a s b t).hits
unfolding ofusc_of
ofusc_counted size a s b t = counted _

pub amc_counted : (a b : ℕ) → (amc_of a b).count ≡ count_of (amc_of a b).hits
unfolding amc_of
amc_counted a b = counted _
