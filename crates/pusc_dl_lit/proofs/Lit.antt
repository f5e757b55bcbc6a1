-- What a mask lights, by computed tests over all 64 masks.
use Rattle.base.proofs.{Prelude.{◌≡◌, refl, ap, ◌∙◌, Bool, true, false, List, ℕ, ◌+◌, ◌*◌, ◌/◌, ◌%◌, ◌<◌, arith, eqb, ltb, eqb→eq}, Table.all_at}
use Rattle.base.proofs.Prelude.{[], ◌++◌, ◌-◌, length, take, drop, ltb-true, ltb-false}
use Rattle.base.proofs.{Tabulate.{entry_of, tabulated}, Test.cases}
use Rattle.std.proofs.{Math.Seq.take-append_seam, lemmas.List.{length-append, length-drop, drop_all, get_or_append_left, get_or-append_right}}
use mathlib.Core.Bool.{not}
use lib.Bits.{bit_and}
use mir.Val.{bool_byte}
use Rattle.base.specs.{Choice.pick, Steps.entry, Tabulate.tabulate, Rank.rank}
use Rattle.clusters.specs.{Cluster.renumber, Group.{cluster_starts, subchannel_starts, group_in}, declared.Physical.Physical, declared.Logical.Logical}
use Rattle.pusc_dl_lit.specs.{Lit.has_group, Model.{group_bit, cluster_lit}}
use Rattle.pusc_dl.specs.Map.{logical_of, used_group}
use Rattle.clusters.proofs.{Tables.all_pairs, Group.cluster_runs, Law.renumbering}
use Prim.Native.Nat.{◌^◌}

-- the lit subchannels: 12 for each even group, 8 for each odd one
abbrev counted : ℕ → ℕ
counted mask = 12 * (mask % 2 + mask / 4 % 2 + mask / 16 % 2) + 8 * (mask / 2 % 2 + mask / 8 % 2 + mask / 32 % 2)

pub lit_count : (mask : ℕ) → mask < 64 → counted mask ≡ rank (λ s. has_group mask (group_in subchannel_starts s)) 60
unfolding rank has_group group_in
lit_count mask h = eqb→eq _ _ (all_at (λ m. eqb (counted m) (rank (λ s. has_group m (group_in subchannel_starts s)) 60)) 64 tt mask h)

-- a group's bit is in the mask
abbrev bit_in : ℕ → ℕ → ℕ
bit_in mask bit = bool_byte (not (eqb (bit_and mask bit) 0))

bit_lit : (mask g : ℕ) → mask < 64 → g < 6 → bit_in mask (2 ^ g) ≡ pick (has_group mask g) 1 0
unfolding has_group
bit_lit mask g h l = eqb→eq _ _ (all_pairs (λ m g. eqb (bit_in m (2 ^ g)) (pick (has_group m g) 1 0)) 64 (λ m. 6) tt mask g h l)

-- the bit of a logical cluster's group: 1 and the bits of the groups below sum up to it
abbrev past : ℕ → ℕ → ℕ → ℕ
past bound n x = pick (ltb n bound) 0 x

pub group-bit : (l : ℕ) → l < 120 → 1 + past 24 l 1 + past 40 l 2 + past 64 l 4 + past 80 l 8 + past 104 l 16 ≡ 2 ^ group_in cluster_starts l
unfolding group_in
group-bit l h =
    eqb→eq _ _ (all_at (λ l. eqb (1 + past 24 l 1 + past 40 l 2 + past 64 l 4 + past 80 l 8 + past 104 l 16) (2 ^ group_in cluster_starts l)) 120 tt l h)

-- a physical cluster of any cell is numbered as another is in cell 0
same_logical : (cell p : ℕ) → renumber 0 (record { 0 = (p + 13 * cell % 120) % 120 }) ≡ renumber cell (record { 0 = p })
unfolding renumber
same_logical cell p = let same : ((p + 13 * cell % 120) % 120 + 13 * 0) % 120 ≡ (p + 13 * cell) % 120 = omega arith in rw same

-- so it is lit by the bit that stands there
pub cluster-lit : (once bits : List ℕ) → once ≡ tabulate 120 group_bit → bits ≡ tabulate 240 (λ j. entry once (j % 120)) → (cell mask p : ℕ) → mask < 64 → p < 120 → bit_in mask (entry bits (p + 13 * cell % 120)) ≡ cluster_lit cell mask p
unfolding group_bit cluster_lit used_group logical_of
cluster-lit once bits e e' cell mask p h l =
    let j = p + 13 * cell % 120 in
    let at : ℕ → Physical = λ x. record { 0 = x } in
    let lit : Logical → ℕ = λ l. pick (has_group mask (group_in cluster_starts l.0)) 1 0 in
    let same : p ≡ p * 14 / 14 = omega arith in
    let logical = renumber 0 (at (j % 120)) in
    ap (bit_in mask) (entry_of bits 240 _ e' j (omega arith) ∙ entry_of once 120 group_bit e (j % 120) (omega arith))
    ∙ bit_lit mask (group_in cluster_starts logical.0) h (cluster_runs.group_lt logical.0 (renumbering.logical_lt 0 (at (j % 120)) (omega arith)))
    ∙ ap lit (same_logical cell p ∙ ap (λ (x : ℕ). renumber cell (at x)) same)

-- a row of 120 laid into a row twice as long, from its first place on and from its middle on
pub twice_over : (once fresh a b : List ℕ) → a ≡ once → b ≡ once → length once ≡ 120 → length fresh ≡ 240
    → take 120 (a ++ drop 120 fresh) ++ (b ++ drop 120 (drop 120 (a ++ drop 120 fresh))) ≡ tabulate 240 (λ j. entry once (j % 120))
twice_over once fresh a b e e' l m =
    rw (e, e', first, rest) (tabulated 0 (once ++ (once ++ [])) 240 _ (omega (arith, length-append once (once ++ []), length-append once [])) at)
  where
    first : take 120 (once ++ drop 120 fresh) ≡ once
    first = rw (← l) (take-append_seam once (drop (length once) fresh))

    rest : drop 120 (drop 120 (once ++ drop 120 fresh)) ≡ []
    rest =
        let all = once ++ drop 120 fresh in
        drop_all 120 (drop 120 all) (omega (arith, length-append once (drop 120 fresh), length-drop 120 fresh, length-drop 120 all))

    at : (k : ℕ) → k < 240 → entry (once ++ (once ++ [])) k ≡ entry once (k % 120)
    at k h =
        cases (ltb k 120)
        (λ e. let lt = ltb-true k 120 e in
        let same : k ≡ k % 120 = omega arith in
        get_or_append_left once (once ++ []) 0 k (omega arith) ∙ ap (entry once) same)
        (λ e. let le = ltb-false k 120 e in
        let same : k - 120 ≡ k % 120 = omega arith in
        get_or-append_right once (once ++ []) 120 k 0 l le ∙ get_or_append_left once [] 0 (k - 120) (omega arith) ∙ ap (entry once) same)

-- what holds of both holds of the choice
either : (P : ℕ → Type 0) {x y : ℕ} (b : Bool) → P x → P y → P (pick b x y)
either P true p q = p
either P false p q = q

-- 63 has every group
pub all_groups : (starts : List ℕ) (x : ℕ) → has_group 63 (group_in starts x) ≡ true
unfolding group_in has_group
all_groups starts x =
    let at : ℕ → Bool = λ i. ltb x (entry starts i) in
    let lit : ℕ → Type 0 = λ g. has_group 63 g ≡ true in
    either lit (at 1) refl (either lit (at 2) refl (either lit (at 3) refl (either lit (at 4) refl (either lit (at 5) refl refl))))
