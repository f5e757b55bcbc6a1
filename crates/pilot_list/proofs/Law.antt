-- What an accepted list leaves: 1536 used numbers, the same as data numbers one for one and in the same order.
use Rattle.base.proofs.Prelude.{◌≡◌, sym, ap, true, false, List, ℕ, ◌<◌, arith, eqb, ltb, eqb-true, eqb-false, ltb-true, ltb-false}
use Rattle.base.proofs.{Test.{cases, true_false}, Rank.rank_law}
use Rattle.base.specs.Rank.{rank}
use Rattle.pilot_list.specs.{List.{is_in, is_left, is_pilot_list, used_of_data, data_of_used}, Law.LeftLaw}
use Rattle.pilot_list.proofs.{Entries.accepted, Stand.{left_is, left_not, after_rank}}

-- what is left is not in the list
in_none : (list : List ℕ) (used : ℕ) → is_left list used ≡ true → is_in list used ≡ false
in_none list used l = cases (is_in list used) (λ e. absurd (true_false (rw (left_not list used e) at (sym l)))) (λ e. e)

module _ (list : List ℕ) (ok : is_pilot_list list ≡ true) where
  many : rank (is_left list) 1702 ≡ 1536
  many =
      let a = accepted list ok in
      let long = a.long in
      omega (arith, after_rank list a.climbs 1702 166 (record { within = omega arith; before = a.below; then = λ h. absurd (omega arith) }))

  some : (d : ℕ) → d < 1536 → d < rank (is_left list) 1702
  some d h = rw many h

  rising : (d next : ℕ) → d < next → next < 1536 → used_of_data list d < used_of_data list next
  unfolding used_of_data
  rising d next h l =
      let law = rank_law (is_left list) 1702 in
      let used = used_of_data list d in
      let used' = used_of_data list next in
      let is : rank (is_left list) used ≡ d = law.forth d (some d (omega arith)) in
      let is' : rank (is_left list) used' ≡ next = law.forth next (some next l) in
      cases (ltb used used')
      (λ t. ltb-true used used' t)
      (λ t. let le = ltb-false used used' t in
      cases (eqb used used')
      (λ s. absurd (omega (arith, ap (rank (is_left list)) (eqb-true used used' s))))
      (λ s. let ne = eqb-false used used' s in
      absurd (omega (arith, (rank_law (is_left list) used).rank_lt used' (omega arith) (law.unrank_passes next (some next l))))))

  pub left_law : LeftLaw list
  unfolding used_of_data data_of_used
  left_law =
      let law = rank_law (is_left list) 1702 in
      record {
        left = many;
        used_lt = λ d h. law.unrank_lt d (some d h);
        no_pilot = λ d h. in_none list (used_of_data list d) (law.unrank_passes d (some d h));
        back = λ d h. law.forth d (some d h);
        data_lt = λ used h e. rw many at (law.rank_lt used h (left_is list used e));
        forth = λ used h e. law.back used h (left_is list used e);
        rising = rising;
      }
