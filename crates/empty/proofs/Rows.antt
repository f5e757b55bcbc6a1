-- The rows of a slot walked one after another: the points on the first carriers are taken, all others are as they were.
use Rattle.base.proofs.{Prelude.{◌≡◌, refl, ◌∙◌, subst, List, ℕ, ◌+◌, ◌*◌, ◌<◌, ◌≤◌, arith, ltb, length, ltb-true, ltb-false, lt-ltb}, Test.cases}
use lib.Ieee.{Float}
use Rattle.base.specs.Choice.{pick}
use Rattle.modes.specs.{Setup.Setup, Mode.{symbols, symbols_of}, Model.Valid}
use Rattle.mask.specs.Mask.{lit_subchannels}
use Rattle.points.specs.{declared.Point.Point, Points.{point_at, floats_of}}
use Rattle.points.proofs.Points.{length_floats, point_floats, by_points}
use Rattle.lengths.specs.Length.{grid_points_of, grid_points}
use Rattle.run_walk.specs.Model.{TakenTo, Took}
use Rattle.run_walk.proofs.Taken.{took_then, took_none, at_lt}
use Rattle.empty.specs.Empty.{lit_stands_at, emptied, emptied_first}

-- the points by a count, where the points' buffer held `old`
abbrev pub by_count : (setup : Setup) (mask slot : ℕ) (grid : List Float) (carriers : ℕ) (old : List Float) → ℕ → Point
by_count setup mask slot grid carriers old n = pick (ltb (lit_stands_at setup mask slot n) carriers) (point_at grid (lit_stands_at setup mask slot n)) (point_at old n)

-- what holds before each turn: the rows before are walked
abbrev pub SlotTurn : (setup : Setup) (mask slot carriers : ℕ) (grid points₀ points : List Float) (row : ℕ) → Type 0
SlotTurn setup mask slot carriers grid points₀ points row = (row ≤ symbols setup) × Took setup mask slot carriers grid 0 (row * setup.size) points₀ points

module _ {setup : Setup} (v : Valid setup) (mask slot carriers : ℕ) (grid points₀ : List Float) where
  pub slot-start : SlotTurn setup mask slot carriers grid points₀ points₀ 0
  slot-start = (omega arith, took_none 0 (0 * setup.size) points₀ (omega arith) (λ n h l low c. omega arith))

  pub slot_next : {points : List Float} {row : ℕ} → SlotTurn setup mask slot carriers grid points₀ points row → row < symbols setup → (points' : List Float)
      → Took setup mask slot carriers grid (row * setup.size) ((row + 1) * setup.size) points points' → SlotTurn setup mask slot carriers grid points₀ points' (row + 1)
  slot_next t h points' w = (omega arith, took_then t.1 w)

  pub slot_done : {points : List Float} {row : ℕ} → SlotTurn setup mask slot carriers grid points₀ points row → symbols setup ≤ row → length points₀ ≡ 96 * lit_subchannels setup mask
      → points ≡ emptied_first setup mask slot carriers grid points₀
  unfolding emptied_first grid_points_of
  slot_done {points} {row} t h long =
      let all : row ≡ symbols setup = omega (arith, t.0) in
      let w : TakenTo setup mask slot carriers grid points₀ (row * setup.size) points =
      t.1.on points₀ record { taken = λ n hn l. absurd (omega arith); later = λ n hn l. refl; past = λ n hn l. refl } in
      by_points points (48 * lit_subchannels setup mask) (by_count setup mask slot grid carriers points₀) (omega (arith, t.1.long))
      (λ n hn.
      cases (ltb (lit_stands_at setup mask slot n) carriers)
      (λ b. rw b (w.taken n hn (rw all (at_lt setup v mask slot n hn)) (ltb-true (lit_stands_at setup mask slot n) carriers b)))
      (λ b. rw b (w.past n hn (ltb-false (lit_stands_at setup mask slot n) carriers b))))

  -- FUSC's only row
  pub symbol_done : setup.mode ≡ 7 → {points : List Float} → Took setup mask slot carriers grid 0 setup.size points₀ points → length points₀ ≡ 96 * lit_subchannels setup mask
      → points ≡ emptied_first setup mask slot carriers grid points₀
  unfolding symbols_of
  symbol_done q {points} w long =
      let one : symbols setup ≡ 1 = rw q in
      let all : setup.size ≡ 1 * setup.size = omega arith in
      slot_done {points = points} {row = 1} (omega arith, subst (λ (n : ℕ). Took setup mask slot carriers grid 0 n points₀ points) all w) (omega arith) long

-- where all carriers are counted, all points are taken
pub first_all : (setup : Setup) → Valid setup → (mask slot carriers : ℕ) (grid old : List Float) → grid_points setup ≤ carriers
    → emptied_first setup mask slot carriers grid old ≡ emptied setup mask slot grid
unfolding emptied_first emptied
first_all setup v mask slot carriers grid old enough =
    let n-points = 48 * lit_subchannels setup mask in
    let first = by_count setup mask slot grid carriers old in
    by_points (floats_of n-points first) n-points _ (length_floats n-points first)
    (λ n h. point_floats n-points first n h ∙ rw (lt-ltb (lit_stands_at setup mask slot n) carriers (omega (arith, at_lt setup v mask slot n h))))
