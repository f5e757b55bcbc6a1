-- The planners' figures hold.
use Rattle.base.proofs.Prelude.{◌≡◌, refl, sym, ◌∙◌, subst, subst⁻¹, true, ℕ, ◌+◌, ◌-◌, ◌*◌, ◌/◌, ◌<◌, ◌≤◌, arith, eqb-true, eq-eqb}
use Rattle.base.proofs.{Chain.same_accepted, Tabulate.length_tabulate}
use mathlib.Core.Logic.{◌↔◌}
use Rattle.base.specs.{Answer.accepted, Steps.skip, Tabulate.tabulate}
use Rattle.carriers.specs.{Band.carrier_of, Bin.{bin_pilot_place, used_of_data}}
use Rattle.ofusc.specs.{Width.{Width, n4, n8, n16, n32}, Field.{modulus, coefficient, product, remainder, times, power, p1, p2}}
use Rattle.ofusc.specs.Map.{group_of, term, cell_term, data_number}
use Rattle.amc.specs.{Element.{add, sequence, times as product'}, Map.{off, zero_rule, element_of, traffic}}
use Rattle.modes.specs.{Setup.setup_with, Mode.{width_of, cells_of, subchannels_of, symbols_of, band_of}, Question.{is_four_sizes, is_cell, is_subchannel}}
use Rattle.formulas.specs.Formula.{spot_of}
use Rattle.map.specs.Place.{Place, place_of}
use Rattle.modes.proofs.{Accept.width_is, ByMode.in_ofusc}
use Rattle.map.proofs.Law.{placing}
use Rattle.collision.specs.Collision.{count_of, index_in, column_in, ofusc_hit, amc_hit, answer_of, ofusc_of, amc_of}
use Rattle.figures.specs.{Word.{Pair, InGroup, Marked, Reached, most}, Figures.Figures}
use Rattle.figures.proofs.Count.{count_all, count_rows, sum_same}
use Rattle.figures.proofs.Answer.{ofusc-hits, ofusc_mark, ofusc_count, ofusc_counted, amc_mark, amc_count, amc_counted}
use Rattle.figures.proofs.Placing.{ofusc_placed, index_is, index-in}
use Rattle.figures.proofs.{OfuscHits.{row_two, all_counts, same_subchannel, other_subchannel, met, meets}, AmcHits.{amc_met, amc_meets}}
use Rattle.figures.proofs.ThreeKinds.{at_most_three}

a_index : {n : ℕ} → Width n → (cell slot s m k : ℕ) (p : Place) → k < 48 → place_of (setup_with 2 (64 * n) cell) slot s m ≡ accepted p
    → InGroup n p.symbol k p.carrier ↔ (m ≡ index_in s k)
unfolding subchannels_of width_of
a_index {n} w cell slot s m k p hk e =
    let q = placing (setup_with 2 (64 * n) cell) slot s m e in
    let hs = rw (width_is n) at q.subchannel_lt in
    let hc = rw (width_is n) at (in_ofusc q.is_valid.ranged refl).cell_lt in
    let here = same_accepted (sym (ofusc_placed w cell slot s m q.slot_lt hs q.index_lt hc) ∙ e) in (
      λ g. index_is w cell slot s k m hs hk q.index_lt (subst⁻¹ (λ (x : Place). InGroup n x.symbol k x.carrier) here g),
      λ i. subst (λ (x : Place). InGroup n x.symbol k x.carrier) here (index-in w cell slot s k m hs hk q.index_lt i),
    )

-- 48 groups lie in 47/(N-1) + 1 rows of N-1, and twice as many is the figure
rows : ℕ → ℕ
rows n = 47 / (n - 1) + 1

rows_enough : {n : ℕ} → Width n → (48 ≤ rows n * (n - 1)) × (rows n * 2 ≡ most n)
unfolding rows most
rows_enough n4 = (omega arith, refl)
rows_enough n8 = (omega arith, refl)
rows_enough n16 = (omega arith, refl)
rows_enough n32 = (omega arith, refl)

rows_count : {n a s b t : ℕ} → Pair n a s b t → (a ≡ b → ⊥) → count_of (tabulate 48 (ofusc_hit (64 * n) a s b t)) ≤ most n
rows_count {n} {a} {s} {b} {t} p other =
    let hits = tabulate 48 (ofusc_hit (64 * n) a s b t) in
    omega (
      arith,
      count_rows (n - 1) 2 (rows n) hits (omega (arith, length_tabulate 48 (ofusc_hit (64 * n) a s b t), rows_enough p.width)) (λ k. row_two p k other),
      rows_enough p.width,
    )

d_reached : {n : ℕ} → Width n → Reached n
unfolding ofusc_of answer_of is_four_sizes is_cell is_subchannel cells_of subchannels_of symbols_of width_of ofusc_hit column_in index_in spot_of band_of carrier_of skip used_of_data bin_pilot_place data_number group_of cell_term term p1 p2 power times remainder product coefficient modulus tabulate count_of most
d_reached n4 = record { a = 10; s = 0; b = 4; t = 2; row = 0; allowed = record { width = n4; first = omega arith; second = omega arith }; within = omega arith; different = λ e. omega arith; in-row = refl; in_all = refl }
d_reached n8 = record { a = 32; s = 0; b = 45; t = 7; row = 0; allowed = record { width = n8; first = omega arith; second = omega arith }; within = omega arith; different = λ e. omega arith; in-row = refl; in_all = refl }
d_reached n16 = record { a = 0; s = 2; b = 244; t = 0; row = 0; allowed = record { width = n16; first = omega arith; second = omega arith }; within = omega arith; different = λ e. omega arith; in-row = refl; in_all = refl }
d_reached n32 = record { a = 0; s = 2; b = 1010; t = 0; row = 0; allowed = record { width = n32; first = omega arith; second = omega arith }; within = omega arith; different = λ e. omega arith; in-row = refl; in_all = refl }

same_v : (a b j : ℕ) → (amc_hit a b j ≡ true) ↔ (traffic a j ≡ traffic b j)
unfolding amc_hit
same_v a b j = (eqb-true (traffic a j) (traffic b j), eq-eqb (traffic a j) (traffic b j))

g_reached : ((amc_of 48 176).count ≡ 3) × Marked (amc_of 48 176).hits 8 × Marked (amc_of 48 176).hits 24 × Marked (amc_of 48 176).hits 32
unfolding amc_of answer_of is_cell cells_of amc_hit traffic element_of zero_rule off add product' sequence tabulate count_of
g_reached = (refl, refl, refl, refl)

pub figures : Figures
figures =
    record {
      a_index = a_index;
      a_mark = λ p slot k hy hk. let mark = ofusc_mark p k hk in (λ e. met p slot k hy hk (sym mark ∙ e), λ c. mark ∙ meets p slot k hy hk c);
      a_count = ofusc_counted;
      b_row = λ p other k. rw (ofusc-hits p) (row_two p k other);
      c_count = λ p other. rw (ofusc_count p) (rows_count p other);
      d_reached = d_reached;
      e_sum = λ w a s b one hb. sum_same _ _ _ (λ t ht. ofusc_count (record { width = w; first = one; second = record { cell_lt = hb; subchannel_lt = ht } })) ∙ all_counts w a b s one.subchannel_lt;
      f_one_cell = λ p. (λ e. ofusc_count p ∙ same_subchannel p e, λ ne. ofusc_count p ∙ other_subchannel p ne);
      g_mark = λ a b ha hb mode from below w slot s j hy hs hj. let mark = amc_mark a b ha hb j hj in
          (λ e. amc_met (from, below) w slot s a b j ha hb hy hs hj (sym mark ∙ e), λ c. mark ∙ amc_meets (from, below) w slot s a b j ha hb hy hs hj c);
      g_v = λ a b ha hb j hj. let mark = amc_mark a b ha hb j hj in (λ e. (same_v a b j).0 (sym mark ∙ e), λ e. mark ∙ (same_v a b j).1 e);
      g_count = amc_counted;
      g_most = λ a b ha hb other. rw (amc_count a b ha hb) (at_most_three a b ha hb other);
      g_reached = g_reached;
      g_same = λ a ha. amc_count a a ha ha ∙ count_all 48 (amc_hit a a) (λ j hj. (same_v a a j).1 refl);
    }
