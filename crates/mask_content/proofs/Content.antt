-- What a column holds where only the mask's groups are lit, from what it holds.
use Rattle.base.proofs.Prelude.{◌≡◌, sym, ap, ◌∙◌, true, false, ℕ, ◌-◌, ◌*◌, ◌<◌, ◌≤◌, arith, eqb-true, le-ltb}
use Rattle.base.proofs.Test.{cases}
use Rattle.base.specs.{Answer.accepted, Steps.unskip}
use Rattle.carriers.specs.{declared.Band.Band, Band.{used_of, is_guard, is_dc}, Law.Whole}
use Rattle.carriers.proofs.Guards.{used_left, used_lt}
use Rattle.centre.specs.Centre.{from_dc}
use Rattle.modes.specs.{Setup.Setup, Mode.{symbols, band}, Model.Valid}
use Rattle.map.specs.{declared.Located.Located, Place.{Content, guard, point, content_of, as_content}}
use Rattle.modes.proofs.Whole.{band_law, centred}
use Rattle.map.proofs.Law.{locate_column, placed_where_located}
use Rattle.mask.specs.Mask.{is_lit, is_used_lit, lit_content}
use Rattle.mask.proofs.Law.{placed_lit}

-- what a call found is what the column holds
pub found_is : {r found : Located} {w : Content} → as_content r ≡ w → r ≡ found → as_content found ≡ w
found_is e f = sym (ap as_content f) ∙ e

-- DC counts as the used number above it
dc_used : (b : Band) (size : ℕ) → Whole b size → used_of b b.dc ≡ b.half
unfolding used_of unskip
dc_used b size law =
    let k : b.dc - b.left ≡ b.half = omega (arith, law.dc_is) in
    rw (k, le-ltb b.half b.half (omega arith)) (omega arith)

module _ {setup : Setup} (v : Valid setup) (mask symbol column : ℕ) (hy : symbol < 512 * symbols setup) (hc : column < setup.size) where
  abbrev used : ℕ
  used = used_of (band setup) column

  abbrev held : Content
  held = content_of setup symbol column

  -- a column that holds a point is lit exactly when the point's subchannel is
  pub content_lit : (a s m : ℕ) → held ≡ point a s m → is_used_lit setup mask used ≡ is_lit setup mask s
  content_lit a s m e =
      let carrier = from_dc setup.size column in
      let l = locate_column setup symbol column v hy hc in
      ap (λ (k : ℕ). is_used_lit setup mask (used_of (band setup) k)) (sym ((centred v.ranged).0.back column))
      ∙ placed_lit setup mask a s m symbol carrier (placed_where_located setup symbol carrier a s m (l ∙ ap accepted e))

  -- what is lit is shown, and for what is not a guard, as for a guard
  pub lit_shown : (w : Content) → w ≡ held → is_used_lit setup mask used ≡ true → w ≡ lit_content setup mask symbol column
  unfolding lit_content
  lit_shown w e t = rw (t, e)

  pub dark_shown : is_used_lit setup mask used ≡ false → guard ≡ lit_content setup mask symbol column
  unfolding lit_content
  dark_shown t = rw t

  pub guard_shown : guard ≡ held → guard ≡ lit_content setup mask symbol column
  guard_shown e = cases (is_used_lit setup mask used) (lit_shown guard e) dark_shown

  no_guard : (w : Content) → (w ≡ guard → ⊥) → held ≡ w → is_guard (band setup) setup.size column ≡ false
  unfolding content_of
  no_guard w ne e = cases (is_guard (band setup) setup.size column) (λ g. absurd (ne (sym e ∙ rw g))) (λ g. g)

  pub has_used : (w : Content) → (w ≡ guard → ⊥) → w ≡ held → ((band setup).left ≤ column) × (used < (band setup).used)
  unfolding is_dc
  has_used w ne e =
      let g = no_guard w ne (sym e) in
      let b = band_law v.ranged in
      cases (is_dc (band setup) column)
      (λ d. let k = eqb-true column (band setup).dc d in
      (omega (arith, b.dc_is), rw (ap (used_of (band setup)) k ∙ dc_used (band setup) setup.size b) b.half_lt))
      (λ d. (used_left (band setup) setup.size b column g d, used_lt (band setup) setup.size b column g d))
