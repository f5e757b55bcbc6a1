-- The hits of optional FUSC, from the algebra of the field: in a row, in a group, for one cell, and as places.
use Rattle.base.proofs.Prelude.{◌≡◌, refl, sym, ap, ◌∙◌, subst⁻¹, Bool, true, ℕ, ◌+◌, ◌-◌, ◌*◌, ◌<◌, ◌≤◌, arith, eqb, eqb-true, eq-eqb, ne_eqb}
use Rattle.base.proofs.{Chain.same_accepted, Xor.xor_twice}
use lib.Bits.{bit_xor}
use Rattle.base.specs.{Answer.accepted, Tabulate.tabulate}
use Rattle.ofusc.specs.{Width.Width, Map.{cell_term, data_number}}
use Rattle.ofusc.proofs.{Sequence.{sum_lt, cell_term_lt}, Law.element_lt}
use Rattle.map.specs.Place.{Place, place_of}
use Rattle.modes.specs.Setup.{setup_with}
use Rattle.map.proofs.Law.{placing}
use Rattle.collision.specs.Collision.{count_of, index_in, ofusc_hit}
use Rattle.figures.specs.Word.{Allowed, Pair, InGroup, Marked, in_row, SameInGroup, sum}
use Rattle.collision.proofs.{Count.one, Group.{carrier_at, element, number_in, same_element, same_test, hit_is}}
use Rattle.figures.proofs.{Count.{marked_at, marked_in_row, no_three, count_all, count_none, sum_same, sum_one, columns}, Field.xor_cross}
use Rattle.figures.proofs.{FieldTest.field, Cells.three_groups, Placing.{at, ofusc_placed, index_lt, index_is, index-in}}

-- in each group one subchannel of cell b is on the carrier of s under a: that of the element less what b adds
module _ {n : ℕ} (w : Width n) (a b s : ℕ) (hs : s < n) where
  one_hit : (k : ℕ) → k < 48 → sum n (λ t. one (ofusc_hit (64 * n) a s b t k)) ≡ 1
  one_hit k hk =
      sum_same n (λ t. one (ofusc_hit (64 * n) a s b t k)) (λ t. one (eqb t x)) (λ t ht. ap one (hit_is w k hk a s b t hs ht ∙ turned t))
      ∙ sum_one n x (sum_lt w (element w k hk a s) (cell_term n b k) (element_lt w a s k hs) (cell_term_lt w b k))
    where
      x : ℕ
      x = bit_xor (element w k hk a s) (cell_term n b k)

      turned : (t : ℕ) → eqb (element w k hk a s) (element w k hk b t) ≡ eqb t x
      turned t = same_test _ _ _ _
          (λ e. sym (xor_twice t (cell_term n b k)) ∙ ap (λ (y : ℕ). bit_xor y (cell_term n b k)) (sym e))
          (λ e. sym (xor_twice (element w k hk a s) (cell_term n b k)) ∙ ap (λ (y : ℕ). bit_xor y (cell_term n b k)) (sym e))

  pub all_counts : sum n (λ t. count_of (tabulate 48 (ofusc_hit (64 * n) a s b t))) ≡ 48
  all_counts = columns n 48 (ofusc_hit (64 * n) a s b) one_hit

module _ {n a s b t : ℕ} (p : Pair n a s b t) where
  abbrev w : Width n
  w = p.width

  abbrev hit : ℕ → Bool
  hit = ofusc_hit (64 * n) a s b t

  -- the two elements in group k: they are the same where it is hit
  abbrev x : (k : ℕ) → k < 48 → ℕ
  x k hk = element w k hk a s

  abbrev y : (k : ℕ) → k < 48 → ℕ
  y k hk = element w k hk b t

  hit_here : (k : ℕ) (hk : k < 48) → hit k ≡ eqb (x k hk) (y k hk)
  hit_here k hk = hit_is w k hk a s b t p.first.subchannel_lt p.second.subchannel_lt

  same_here : (k : ℕ) (hk : k < 48) → hit k ≡ true → x k hk ≡ y k hk
  same_here k hk e = eqb-true _ _ (sym (hit_here k hk) ∙ e)

  -- three hits in N-1 groups in a row: it is one cell
  module _ (k : ℕ) where
    abbrev row : ℕ → Type 0
    row i = Marked (in_row (n - 1) k (tabulate 48 hit)) i

    -- a hit, as the difference of what the two cells add
    found : (i : ℕ) → row i → (i < n - 1) × (bit_xor (cell_term n a (k + i)) (cell_term n b (k + i)) ≡ bit_xor s t)
    found i e =
        let r = marked_in_row (n - 1) k (tabulate 48 hit) i e in
        let m = marked_at 48 hit (k + i) r.1 in
        (r.0, sym (xor_cross s (cell_term n a (k + i)) t (cell_term n b (k + i)) (same_here (k + i) m.0 m.1)))

    three_in_a_row : (i j m : ℕ) → i < j → j < m → row i → row j → row m → a ≡ b
    three_in_a_row i j m l g eᵢ eⱼ eₘ =
        let from : (j : ℕ) → i < j → k + i + (j - i) ≡ k + j = λ j l. omega arith in
        let fⱼ = found j eⱼ in
        let fₘ = found m eₘ in
        three_groups (field w) a b p.first.cell_lt p.second.cell_lt (bit_xor s t) (k + i) (j - i) (m - i) (omega arith) (omega arith) (omega arith) (found i eᵢ).1
        (ap (λ (x : ℕ). bit_xor (cell_term n a x) (cell_term n b x)) (from j l) ∙ fⱼ.1)
        (ap (λ (x : ℕ). bit_xor (cell_term n a x) (cell_term n b x)) (from m (omega arith)) ∙ fₘ.1)

    pub row_two : (a ≡ b → ⊥) → count_of (in_row (n - 1) k (tabulate 48 hit)) ≤ 2
    row_two other = no_three (in_row (n - 1) k (tabulate 48 hit)) (λ i j m l g e f h. other (three_in_a_row i j m l g e f h))

  -- a hit in group k is one place, whatever the symbol
  module _ (slot k : ℕ) (hy : slot < 512) (hk : k < 48) where
    pub met : hit k ≡ true → SameInGroup n k (place_of (setup_with 2 (64 * n) a) slot s) (place_of (setup_with 2 (64 * n) b) slot t)
    met e =
        record {
          index = index_in s k;
          index' = index_in t k;
          same = record {
            at = at n slot (data_number n a s (index_in s k));
            first = ofusc_placed w a slot s (index_in s k) hy p.first.subchannel_lt (index_lt s k) p.first.cell_lt;
            second = ofusc_placed w b slot t (index_in t k) hy p.second.subchannel_lt (index_lt t k) p.second.cell_lt ∙ ap (λ (d : ℕ). accepted (at n slot d)) (sym number);
          };
          within = index-in w a slot s k (index_in s k) p.first.subchannel_lt hk (index_lt s k) refl;
        }
      where
        number : data_number n a s (index_in s k) ≡ data_number n b t (index_in t k)
        number = number_in w k hk a s ∙ ap (λ (x : ℕ). k * n + x) (same_here k hk e) ∙ sym (number_in w k hk b t)

    -- the carrier of a point in group k
    there : (cell s m : ℕ) (z : Place) → Allowed n cell s → place_of (setup_with 2 (64 * n) cell) slot s m ≡ accepted z → InGroup n z.symbol k z.carrier
        → carrier_at n slot (k * n + element w k hk cell s) ≡ z.carrier
    there cell s m z h e g =
        let hm = (placing (setup_with 2 (64 * n) cell) slot s m e).index_lt in
        let q : at n slot (data_number n cell s m) ≡ z = same_accepted (sym (ofusc_placed w cell slot s m hy h.subchannel_lt hm h.cell_lt) ∙ e) in
        let i = index_is w cell slot s k m h.subchannel_lt hk hm (subst⁻¹ (λ (x : Place). InGroup n x.symbol k x.carrier) q g) in
        ap (carrier_at n slot) (sym (number_in w k hk cell s) ∙ ap (data_number n cell s) (sym i)) ∙ ap (λ (x : Place). x.carrier) q

    pub meets : SameInGroup n k (place_of (setup_with 2 (64 * n) a) slot s) (place_of (setup_with 2 (64 * n) b) slot t) → hit k ≡ true
    meets c =
        hit_here k hk
        ∙ eq-eqb _ _
        (same_element w k hk slot (x k hk) (y k hk) (element_lt w a s k p.first.subchannel_lt) (element_lt w b t k p.second.subchannel_lt)
        (there a s c.index c.same.at p.first c.same.first c.within
        ∙ sym (there b t c.index' c.same.at p.second c.same.second c.within)))

-- one cell: a subchannel meets itself in every group, and no other
module _ {n a s t : ℕ} (p : Pair n a s a t) where
  pub same_subchannel : s ≡ t → count_of (tabulate 48 (hit p)) ≡ 48
  same_subchannel e = count_all 48 (hit p) (λ k hk. hit_here p k hk ∙ eq-eqb _ _ (ap (λ (x : ℕ). bit_xor x (cell_term n a k)) e))

  pub other_subchannel : (s ≡ t → ⊥) → count_of (tabulate 48 (hit p)) ≡ 0
  other_subchannel ne =
      count_none 48 (hit p)
      (λ k hk. hit_here p k hk
      ∙ ne_eqb (x p k hk) (y p k hk) (λ e. ne (sym (xor_twice s (cell_term n a k)) ∙ ap (λ (x : ℕ). bit_xor x (cell_term n a k)) e ∙ xor_twice t (cell_term n a k))))
