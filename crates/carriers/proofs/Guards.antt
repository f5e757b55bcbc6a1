-- Used numbers and the carriers that are neither guard nor DC are the same, one for one.
use Rattle.base.proofs.Prelude.{◌≡◌, refl, sym, ap, ◌∙◌, true, false, ℕ, ◌+◌, ◌-◌, ◌*◌, ◌<◌, ◌≤◌, arith, ltb, leb, le-ltb, ne_eqb, ltb-false}
use Rattle.base.proofs.Prelude.{eqb-false}
use Rattle.base.proofs.{Test.{cases, true_false}, LeaveOut.{unskip_skip, skip_unskip, skip_ne, skip_lt, unskip_lt, before_skip}}
use borrow.Author.Tests.{lt-leb, leb-false}
use Rattle.base.specs.{Choice.pick, Steps.{skip, unskip}}
use Rattle.carriers.specs.{declared.Band.Band, Band.{bin_band, pusc_band, fusc_band, carrier_of, used_of, is_guard, is_dc}, Law.{Whole, BandLaw}}

pub pusc-band : Whole pusc_band 2048
pusc-band = record { dc_is = refl; half_lt = omega arith; size_is = refl }

pub fusc-band : Whole fusc_band 2048
fusc-band = record { dc_is = refl; half_lt = omega arith; size_is = refl }

pub bin-band : (n : ℕ) → 0 < n → Whole (bin_band n) (64 * n)
bin-band n h = record { dc_is = omega arith; half_lt = omega arith; size_is = omega arith }

-- the larger of two used numbers is in the column further on
rising : (b : Band) (u v : ℕ) → u < v → carrier_of b u < carrier_of b v
unfolding carrier_of
rising b u v l = let s = before_skip b.half u (skip b.half v) (rw (unskip_skip b.half v) l) in omega arith

cancel : (a x : ℕ) → a + x - a ≡ x
cancel a x = omega arith

-- a carrier that is no guard lies between them
guard_cases : (b : Band) (size carrier : ℕ) → is_guard b size carrier ≡ false → (b.left ≤ carrier) × (carrier < size - b.right)
unfolding is_guard
guard_cases b size carrier g =
    cases (ltb carrier b.left)
    (λ e. absurd (true_false (sym (ap (λ t. pick t true (leb (size - b.right) carrier)) e) ∙ g)))
    (λ e. (ltb-false carrier b.left e, leb-false (size - b.right) carrier (sym (ap (λ t. pick t true (leb (size - b.right) carrier)) e) ∙ g)))

module _ (b : Band) (size : ℕ) (law : Whole b size) where
  -- a used number's carrier
  module _ (u : ℕ) (h : u < b.used) where
    pub carrier_lt : carrier_of b u < size
    unfolding carrier_of
    carrier_lt = let l = skip_lt b.half u h in let e = law.size_is in omega arith

    pub carrier_no_guard : is_guard b size (carrier_of b u) ≡ false
    unfolding is_guard carrier_of
    carrier_no_guard =
        let l = skip_lt b.half u h in
        let e = law.size_is in
        rw (le-ltb (carrier_of b u) b.left (omega arith), lt-leb (size - b.right) (carrier_of b u) (omega arith))

    pub carrier_no_dc : is_dc b (carrier_of b u) ≡ false
    unfolding is_dc carrier_of
    carrier_no_dc = ne_eqb (carrier_of b u) b.dc (λ e. skip_ne b.half u (let d = law.dc_is in omega arith))

    pub used-carrier : used_of b (carrier_of b u) ≡ u
    unfolding used_of carrier_of
    used-carrier = ap (unskip b.half) (cancel b.left (skip b.half u)) ∙ unskip_skip b.half u

  -- the used number of a carrier that is no guard and not DC
  module _ (carrier : ℕ) (g : is_guard b size carrier ≡ false) (d : is_dc b carrier ≡ false) where
    pub used_left : b.left ≤ carrier
    used_left = (guard_cases b size carrier g).0

    not_half : carrier - b.left ≡ b.half → ⊥
    unfolding is_dc
    not_half e = eqb-false carrier b.dc d (let l = used_left in let k = law.dc_is in omega arith)

    pub used_lt : used_of b carrier < b.used
    unfolding used_of
    used_lt = unskip_lt b.half (carrier - b.left) (omega (arith, law.half_lt)) not_half
        (let p = guard_cases b size carrier g in let e = law.size_is in omega arith)

    pub carrier_used : carrier_of b (used_of b carrier) ≡ carrier
    unfolding used_of carrier_of
    carrier_used = ap (λ w. b.left + w) (skip_unskip b.half (carrier - b.left) not_half) ∙ (let l = used_left in omega arith)

  pub band_law : BandLaw b size
  band_law =
      record {
        rising = rising b;
        column_lt = carrier_lt;
        no_guard = carrier_no_guard;
        no_dc = carrier_no_dc;
        back = used-carrier;
        used_lt = used_lt;
        forth = carrier_used;
      }
