-- Which grounds are the same: those of slots whose pilots are at the same places, and where all is lit those of all cells.
use Rattle.base.proofs.{Prelude.{◌≡◌, ap, ◌∙◌, List, ℕ, ◌+◌, ◌*◌, ◌%◌, ◌<◌, length, lt-ltb}, Test.cases}
use mathlib.Core.Logic.{◌⊎◌, ⊎_elim}
use lib.Ieee.{Float}
use Rattle.base.specs.Answer.{Answer, accepted, ask}
use Rattle.carriers.specs.Band.{used_of, is_guard, is_dc}
use Rattle.modes.specs.{Setup.{Setup, setup_lent}, Mode.{symbols, band}, Question.is_slot, Model.Valid}
use Rattle.map.specs.Place.{data_at, content_of}
use Rattle.formulas.specs.Formula.{is_pilot}
use Rattle.modes.proofs.Accept.{passes}
use Rattle.formulas.proofs.Alike.{alike_mod_3, alike_by_threes, pilots_down, pilots_lent, pilots_alike, same_pilots}
use Rattle.mask.specs.Mask.{is_mask, is_used_lit, lit_content, all_lit}
use Rattle.mask.proofs.Law.{mask_law}
use Rattle.points.specs.{declared.Point.Point, Points.floats_of}
use Rattle.lengths.specs.Length.{grid_points}
use Rattle.questions.specs.Question.{is_grid, ask_ground}
use Rattle.grid.specs.{Row.{row_of, column_of}, Grid.{Outcome, outcome}}
use Rattle.ground.specs.Ground.{bare, grounded, ground_of}

-- ---- the ground goes by its pilots

module _ (setup : Setup) (mask : ℕ) (p : Point) where
  bare_by_pilots : (y z column : ℕ) → is_pilot setup y (used_of (band setup) column) ≡ is_pilot setup z (used_of (band setup) column)
      → bare p (lit_content setup mask y column) ≡ bare p (lit_content setup mask z column)
  unfolding lit_content content_of data_at bare
  bare_by_pilots y z column e =
      let used = used_of (band setup) column in
      cases (is_used_lit setup mask used)
      (λ t. cases (is_guard (band setup) setup.size column)
      (λ g. rw (t, g))
      (λ g. cases (is_dc (band setup) column)
      (λ d. rw (t, g, d))
      (λ d. cases (is_pilot setup z used)
      (λ i. rw (t, g, d, e, i))
      (λ i. rw (t, g, d, e, i)))))
      (λ t. rw t)

  module _ (slot other : ℕ) (e : (o used : ℕ) → is_pilot setup (slot * symbols setup + o) used ≡ is_pilot setup (other * symbols setup + o) used) (old : List Float)
      (hs : slot < 512) (ho : other < 512) where
    same_asked : (rest : Answer (List Float)) → ask_ground setup mask slot (length old) rest ≡ ask_ground setup mask other (length old) rest
    unfolding is_slot
    same_asked rest = rw (lt-ltb slot 512 hs, lt-ltb other 512 ho)

    same_ground : ground_of setup mask slot p old ≡ ground_of setup mask other p old
    unfolding ground_of grounded
    same_ground =
        ap (λ (answer : Answer (List Float)). outcome answer old) (same_asked _)
        ∙ (λ i. ground (λ n. bare_by_pilots (slot * symbols setup + row_of setup n) (other * symbols setup + row_of setup n) (column_of setup n) (e (row_of setup n) _) i))
      where
        ground : (ℕ → Point) → Outcome
        ground f = outcome (ask_ground setup mask other (length old) (accepted (floats_of (grid_points setup) f))) old

pub ground_mod_3 : (setup : Setup) (mask slot other : ℕ) (p : Point) (old : List Float) → slot < 512 → other < 512 → slot % 3 ≡ other % 3
    → ground_of setup mask slot p old ≡ ground_of setup mask other p old
ground_mod_3 setup mask slot other p old hs ho e = same_ground setup mask p slot other (pilots_alike setup slot other (alike_mod_3 setup slot other e)) old hs ho

pub ground_always : (setup : Setup) (mask slot other : ℕ) (p : Point) (old : List Float) → slot < 512 → other < 512 → (setup.mode ≡ 0) ⊎ ((setup.mode ≡ 7) ⊎ (symbols setup % 3 ≡ 0))
    → ground_of setup mask slot p old ≡ ground_of setup mask other p old
ground_always setup mask slot other p old hs ho h =
    same_ground setup mask p slot other
    (⊎_elim (pilots_down setup slot other) (⊎_elim (pilots_lent setup slot other) (λ z. pilots_alike setup slot other (alike_by_threes setup slot other z))) h)
    old hs ho

-- ---- where all is lit

module _ (mode size cell other slot : ℕ) (pilots : List ℕ) (p : Point) (old : List Float) where
  abbrev a : Setup
  a = setup_lent mode size cell pilots

  abbrev b : Setup
  b = setup_lent mode size other pilots

  same_bare : (y column : ℕ) → bare p (lit_content a (all_lit mode) y column) ≡ bare p (lit_content b (all_lit mode) y column)
  unfolding content_of data_at bare
  same_bare y column =
      let used = used_of (band b) column in
      rw (mask_law.all_content a y column, mask_law.all_content b y column, same_pilots mode size cell other pilots y used)
      (cases (is_guard (band b) size column)
      (λ g. rw g)
      (λ g. cases (is_dc (band b) column)
      (λ d. rw (g, d))
      (λ d. cases (is_pilot b y used) (λ i. rw (g, d, i)) (λ i. rw (g, d, i)))))

  pub every_cell : Valid a → Valid b → ground_of a (all_lit mode) slot p old ≡ ground_of b (all_lit mode) slot p old
  unfolding ground_of grounded is_grid row_of column_of
  every_cell va vb =
      rw (passes va.ranged, passes vb.ranged, va.is-lent, vb.is-lent) (λ i. ground (λ n. same_bare (slot * symbols b + row_of b n) (column_of b n) i))
    where
      ground : (ℕ → Point) → Outcome
      ground f =
          outcome (ask (is_mask mode (all_lit mode)) 17 (ask (is_slot slot) 4 (ask (is_grid b (length old)) 9 (accepted (floats_of (grid_points b) f))))) old
