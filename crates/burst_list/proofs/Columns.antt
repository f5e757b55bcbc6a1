-- The edges of a list's bursts in columns, and that their overlaps are the list's.
use Rattle.base.proofs.{Prelude.{◌≡◌, ap, ◌∙◌, List, ℕ, ◌+◌, ◌<◌, arith, eqb, set, replicate}, Tabulate.{Written, written_none, written_next}, First.first_as}
use Rattle.base.specs.First.{is_none}
use Rattle.burst.specs.{declared.Edges.Edges, Burst.{burst_at, is_overlap}, Model.{edges_of, edges_overlap}}
use Rattle.burst.proofs.Cover.{edges-overlap}
use Rattle.burst_list.specs.{List.is_apart, Model.edges_at}

-- the edges of the first n bursts stand there
pub record Held (numbers starts ends slot_starts slot_ends : List ℕ) (n : ℕ) : Type 0 where
  pub starts_are : Written 64 (λ k. (edges_of (burst_at numbers k)).start) starts n
  pub ends_are : Written 64 (λ k. (edges_of (burst_at numbers k)).end) ends n
  pub slot_starts_are : Written 64 (λ k. (edges_of (burst_at numbers k)).slot_start) slot_starts n
  pub slot_ends_are : Written 64 (λ k. (edges_of (burst_at numbers k)).slot_end) slot_ends n

pub held_none : (numbers : List ℕ) → Held numbers (replicate 64 0) (replicate 64 0) (replicate 64 0) (replicate 64 0) 0
held_none numbers = record { starts_are = written_none 64 _; ends_are = written_none 64 _; slot_starts_are = written_none 64 _; slot_ends_are = written_none 64 _ }

module _ {numbers starts ends slot_starts slot_ends : List ℕ} (n : ℕ) {edges : Edges} (e : edges ≡ edges_of (burst_at numbers n)) where
  pub held_next : Held numbers starts ends slot_starts slot_ends n → n < 64
      → Held numbers (set starts n edges.start) (set ends n edges.end) (set slot_starts n edges.slot_start) (set slot_ends n edges.slot_end) (n + 1)
  held_next held h =
      record {
        starts_are = written_next held.starts_are h _ (ap (λ (x : Edges). x.start) e);
        ends_are = written_next held.ends_are h _ (ap (λ (x : Edges). x.end) e);
        slot_starts_are = written_next held.slot_starts_are h _ (ap (λ (x : Edges). x.slot_start) e);
        slot_ends_are = written_next held.slot_ends_are h _ (ap (λ (x : Edges). x.slot_end) e);
      }

  pub held_apart : Held numbers starts ends slot_starts slot_ends (n + 1) → is_none (λ j. edges_overlap (edges_at starts ends slot_starts slot_ends j) edges) n ≡ is_apart numbers n
  unfolding is_apart
  held_apart held =
      ap (λ (k : ℕ). eqb k n)
      (first_as (λ j. edges_overlap (edges_at starts ends slot_starts slot_ends j) edges) (λ j. is_overlap (burst_at numbers j) (burst_at numbers n)) n (λ j lt.
      let l : j < n + 1 = omega arith in
      rw (held.starts_are.entries j l, held.ends_are.entries j l, held.slot_starts_are.entries j l, held.slot_ends_are.entries j l)
      (ap (edges_overlap (edges_of (burst_at numbers j))) e ∙ edges-overlap (burst_at numbers j) (burst_at numbers n))))
