-- How many bytes zones and plans take, and the answers of writing.
use Rattle.base.proofs.Prelude.{◌≡◌, ap, List, [], ◌∷◌, ℕ, zero, suc, ◌+◌, ◌*◌, ◌<◌, ◌≤◌, arith, leb, length, take, get_or}
use native.Mathlib.Nat.{zero-add}
use lib.ListN.{length-append, length-take}
use borrow.Author.Tests.{le-leb, lt-leb, leb-true, leb-false}
use Rattle.std.specs.Prelude.{Result}
use Rattle.std.specs.Result.{IsErrAnd}
use Rattle.std.proofs.lemmas.Result.{err_from_is_err_and}
use Rattle.base.specs.Answer.{accepted, refused, ask}
use Rattle.refusal.specs.{declared.Refusal.Refusal, Refusal.number_of}
use Rattle.refusal.proofs.Asked.{asked_no, asked_yes}
use Rattle.text.specs.Text.{put, Put}
use Rattle.text.proofs.Laws.{take_put}
use Rattle.value.specs.Value.{encode_in, encode}
use Rattle.value.proofs.Laws.{no_longer}
use Rattle.zone.specs.{declared.Zone.Zone, Zone.{values_of, unused}, Model.Small}
use Rattle.plan.specs.{declared.Plan.Plan, Plan.{used_zones, each}, Model.plan_refusal}
use Rattle.plan.proofs.Judge.{Fit, plan_no, plan_passes, count_most, size_small, fit_small}
use Rattle.plan_write.specs.Write.{zone_bytes, plan_bytes, AfterWrite, after_write, write_of, written}

-- Values of which none is above its limit, each limit below 2^21.
pub data Within : (values limits : List ℕ) → Type 0 where
  all : Within [] []
  also : (x most : ℕ) {values limits : List ℕ} → x ≤ most → most < 2097152 → Within values limits → Within (x ∷ values) (most ∷ limits)

-- They take no more bytes than the limits do.
bytes_most : {values limits : List ℕ} → Within values limits → length (each encode values) ≤ length (each encode limits)
unfolding each
bytes_most all = omega arith
bytes_most (also x most h l w) = simp length-append (omega (arith, no_longer 3 h, bytes_most w))

pub value_small : {values limits : List ℕ} (k : ℕ) → Within values limits → get_or values k 0 < 2097152
value_small k all = omega arith
value_small zero (also x most h l w) = omega arith
value_small (suc k) (also x most h l w) = value_small k w

-- A zone's values are within limits that take 6 bytes: 1 for the mode, 2 for the cell, 2 for the slots, 1 for the mask. The first three take 5.
abbrev pub limits : List ℕ
limits = 7 ∷ 2351 ∷ 512 ∷ 63 ∷ []

pub within : {z : Zone} → Small z → Within (values_of z) limits
within {z} s =
    also z.mode 7 (omega arith) (omega arith)
    (also z.cell 2351 (omega arith) (omega arith)
    (also z.slots 512 (omega arith) (omega arith)
    (also z.mask 63 (omega arith) (omega arith) all)))

zone_6 : {z : Zone} → Small z → length (zone_bytes z) ≤ 6
unfolding zone_bytes each encode_in
zone_6 s = bytes_most (within s)

-- So the zones of a fit plan take 48. The count takes 1 and the size 2, so the plan takes 51.
zones_most : (zones : List Zone) → ((k : ℕ) → Small (get_or zones k unused)) → length (each zone_bytes zones) ≤ 6 * length zones
unfolding each
zones_most [] s = omega arith
zones_most (z ∷ zones) s = simp length-append (omega (arith, zone_6 (s 0), zones_most zones (λ k. s (suc k))))

pub plan_length : (p : Plan) → length (plan_bytes p) ≡ length (encode p.count) + (length (encode p.size) + length (each zone_bytes (used_zones p)))
unfolding plan_bytes
plan_length p = simp length-append

pub plan_51 : {p : Plan} → Fit p → length (plan_bytes p) ≤ 51
unfolding encode_in
plan_51 {p} f =
    let most = count_most p.count f.count_is in
    omega (arith, plan_length p, zones_most (used_zones p) (fit_small f), length-take p.count p.zones, no_longer 3 most, no_longer 3 (size_small p.size f.size_is))

-- the answers of writing: a plan's bytes are made first, then copied
module _ (p : Plan) (d : List ℕ) where
  pub write_no : (e : Refusal) → number_of e ≡ plan_refusal p → record { answer = refused (number_of e); dest = d } ≡ write_of p d
  unfolding write_of
  write_no e f = ap (λ a. after_write a d) (plan_no p _ e f)

  pub write_fit : Fit p → after_write (ask (leb (length (plan_bytes p)) (length d)) 16 (accepted (plan_bytes p))) d ≡ write_of p d
  unfolding write_of
  write_fit f = ap (λ a. after_write a d) (plan_passes p _ f)

  module _ (f : Fit p) (room₀ : List ℕ) {n : ℕ} {bytes : List ℕ} (w : Put room₀ 0 (plan_bytes p) n bytes) where
    pub write_short : {k : ℕ} → refused k ≡ ask {A = Unit {0}} (leb n (length d)) 16 (accepted tt) → record { answer = refused k; dest = d } ≡ write_of p d
    write_short {k} h =
        let no' = asked_no _ 16 k h in
        let short : length d < n = leb-false n (length d) no'.0 in
        rw no'.1 (rw (lt-leb (length (plan_bytes p)) (length d) (omega (arith, w.next_is))) at (write_fit f))

    pub write_done : {x : Unit {0}} {next : ℕ} {after : List ℕ} → accepted x ≡ ask (leb n (length d)) 16 (accepted tt) → Put d 0 (take n bytes) next after
        → record { answer = accepted next; dest = after } ≡ write_of p d
    unfolding put
    write_done h v =
        let room : n ≤ length d = leb-true n (length d) (asked_yes _ 16 _ h) in
        let front : take n bytes ≡ plan_bytes p = rw (w.next_is, w.after_is) (take_put room₀ 0 (plan_bytes p) (omega arith)) in
        rw (v.next_is, v.after_is, front, zero-add) (rw (le-leb (length (plan_bytes p)) (length d) (omega (arith, w.next_is))) at (write_fit f))

-- what a `?` of `write` returns
pub written_no : (d : List ℕ) (r : Result ℕ Refusal) (e : Refusal) → IsErrAnd r (λ y. y ≡ e) → {w : AfterWrite} → record { answer = refused (number_of e); dest = d } ≡ w → written r d ≡ w
written_no d r e f h = let p = err_from_is_err_and r f in rw (p.1, p.2) h
