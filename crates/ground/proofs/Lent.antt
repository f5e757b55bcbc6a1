-- The ground of FUSC: the pass over the lent list of a cleared grid puts the pilot point on every pilot's place.
use Rattle.base.proofs.Prelude.{◌≡◌, refl, ap, ◌∙◌, subst, true, List, ℕ, zero, suc, ◌+◌, ◌*◌, ◌<◌, ◌≤◌, arith, eqb, ltb, length, eqb-true, eqb-false, ltb-true}
use Rattle.base.proofs.Prelude.{ltb-false, ne_eqb}
use Rattle.base.proofs.Test.{cases}
use lib.Ieee.{Float}
use Rattle.base.specs.Steps.{entry}
use Rattle.carriers.specs.{declared.Band.Band, Band.{carrier_of, used_of}}
use Rattle.pilot_list.specs.List.{is_in}
use Rattle.pilot_list.proofs.Entries.{accepted, in_at, place_of}
use Rattle.modes.specs.{Setup.Setup, Mode.{symbols, symbols_of, band}, Model.Valid}
use Rattle.modes.proofs.{Choice.{at_7, by-mode}, ByMode.in_fusc, Lent.list_lent}
use Rattle.map.specs.Place.{pilot}
use Rattle.formulas.specs.Formula.{is_pilot}
use Rattle.map.proofs.Law.{pilot_content}
use Rattle.mask.specs.Mask.{is_used_lit_of, is_used_lit, lit_content}
use Rattle.points.specs.{declared.Point.Point, Points.point_at, Model.{put_point, puts}}
use Rattle.points.proofs.Points.{length_put, put_same, put_other}
use Rattle.lengths.specs.Length.{grid_points}
use Rattle.grid.specs.Row.{used_position, column_of}
use Rattle.grid.proofs.Slot.{holds_at, used_row, used_column, used_position_is}
use Rattle.ground.specs.{Ground.bare, Model.{ground_at, PilotsBelow}}

-- where an entry of the list stands
abbrev entry_stands : (setup : Setup) (i : ℕ) → ℕ
entry_stands setup i = used_position setup 0 (entry setup.pilots i)

-- the first i pilots of the list are as the ground has them, and so is what was so before
record ListTurn (setup : Setup) (mask slot : ℕ) (p : Point) (before after : List Float) (i : ℕ) : Type 0 where
  pub long : length after ≡ length before
  pub kept : (n : ℕ) → point_at before n ≡ ground_at setup mask slot p n → point_at after n ≡ ground_at setup mask slot p n
  pub put : (j : ℕ) → j < i → point_at after (entry_stands setup j) ≡ ground_at setup mask slot p (entry_stands setup j)

pub only_row : (setup : Setup) → setup.mode ≡ 7 → symbols setup ≡ 1
unfolding symbols_of
only_row setup q = rw q

module _ {setup : Setup} (v : Valid setup) (q : setup.mode ≡ 7) where
  -- an entry of the list is a used number
  pub entry_used : (i : ℕ) → i < 166 → entry setup.pilots i < (band setup).used
  entry_used i h = rw (in_fusc v.ranged q).used_are ((accepted setup.pilots (list_lent v q)).below i h)

  -- and stands where it is worked out to
  module _ (b : Band) (e : b ≡ band setup) (i : ℕ) (h : i < 166) where
    stands : (0 * setup.size + carrier_of b (entry setup.pilots i) ≡ entry_stands setup i) × (0 * setup.size + carrier_of b (entry setup.pilots i) < grid_points setup)
    stands = used_position_is v.ranged 0 (entry setup.pilots i) (omega (arith, only_row setup q)) (entry_used i h) b e _ refl

    pub entry-stands : carrier_of b (entry setup.pilots i) ≡ entry_stands setup i
    entry-stands = omega (arith, stands.0)

    pub entry_in : carrier_of b (entry setup.pilots i) < grid_points setup
    entry_in = omega (arith, stands.1)

  module _ (mask slot : ℕ) (p : Point) where
    abbrev at : ℕ → Point
    at = ground_at setup mask slot p

    pilot_is : (y used : ℕ) → is_in setup.pilots used ≡ is_pilot setup y used
    unfolding is_pilot
    pilot_is y used = by-mode (at_7 q)

    all-lit : (used : ℕ) → is_used_lit setup mask used ≡ true
    unfolding is_used_lit_of
    all-lit used = rw (ne_eqb setup.mode 0 (λ e. omega arith))

    -- a place that holds a pilot has the pilot point
    place_own : (used : ℕ) → used < (band setup).used → is_in setup.pilots used ≡ true → p ≡ at (used_position setup 0 used)
    unfolding bare lit_content
    place_own used h is =
        let y = slot * symbols setup + 0 in
        let holds : holds_at setup slot (used_position setup 0 used) ≡ pilot =
        rw (used_row setup v.ranged 0 used h, used_column setup v.ranged 0 used h) (pilot_content setup v y used h (rw (← pilot_is y used) is)) in
        rw (all-lit (used_of (band setup) (column_of setup (used_position setup 0 used))), holds)

    module _ (b : Band) (e : b ≡ band setup) (before : List Float) (l : length before ≡ 2 * grid_points setup) where
      abbrev place : ℕ → ℕ
      place j = carrier_of b (entry setup.pilots j)

      -- one entry more
      module _ {grid : List Float} (i : ℕ) (h : i < 166) (t : ListTurn setup mask slot p before grid i) where
        abbrev x : ℕ
        x = entry_stands setup i

        abbrev grid' : List Float
        grid' = put_point grid (place i) p

        same : grid' ≡ put_point grid x p
        same = ap (λ (n : ℕ). put_point grid n p) (entry-stands b e i h)

        here : point_at grid' x ≡ at x
        here =
            let there = accepted setup.pilots (list_lent v q) in
            ap (λ (g : List Float). point_at g x) same
            ∙ put_same grid x p (omega (arith, t.long, entry-stands b e i h, entry_in b e i h))
            ∙ place_own (entry setup.pilots i) (entry_used i h) (in_at setup.pilots i (omega (arith, there.long)))

        keeps : (n : ℕ) → point_at grid n ≡ at n → point_at grid' n ≡ at n
        keeps n z =
            cases (eqb n x)
            (λ b. let w = eqb-true n x b in rw w here)
            (λ b. ap (λ (g : List Float). point_at g n) same ∙ put_other grid x p n (eqb-false n x b) ∙ z)

        list_next : ListTurn setup mask slot p before grid' (suc i)
        list_next =
            record {
              long = length_put grid (place i) p ∙ t.long;
              kept = λ n z. keeps n (t.kept n z);
              put = λ j hj.
                  cases (ltb j i)
                  (λ b. keeps (entry_stands setup j) (t.put j (ltb-true j i b)))
                  (λ b. let z : j ≡ i = omega (arith, ltb-false j i b) in rw z here);
            }

      list_turn : (i : ℕ) → i ≤ 166 → ListTurn setup mask slot p before (puts place (λ j. p) i before) i
      unfolding puts
      list_turn zero h = record { long = refl; kept = λ n z. z; put = λ j h. absurd (omega arith) }
      list_turn (suc i) h = list_next i (omega arith) (list_turn i (omega arith))

      -- the pilots of the row are those of the list
      pub list_put : (grid : List Float) → grid ≡ puts place (λ j. p) 166 before → PilotsBelow setup mask slot p 0 (band setup).used before grid
      list_put grid d =
          let t = list_turn 166 (omega arith) in
          rw d record {
            long = t.long;
            kept = t.kept;
            put = λ used hu is.
                let there = place_of setup.pilots used (pilot_is (slot * symbols setup + 0) used ∙ is) in
                let l = (accepted setup.pilots (list_lent v q)).long in
                subst (λ (u : ℕ). point_at (puts place (λ j. p) 166 before) (used_position setup 0 u) ≡ at (used_position setup 0 u)) there.is (t.put there.at (omega (arith, there.within)));
          }
