-- `value::write` meets its contract: the stores put the value's bytes.
use Rattle.base.proofs.{Prelude.{◌≡◌, refl, List, [], ◌∷◌, ℕ, suc, ◌+◌, ◌/◌, ◌%◌, ◌<◌, ◌≤◌, arith, length, set, rules, ltb, le-ltb}, Test.cases}
use native.Mathlib.Numerals.{add-one, add-two}
use lib.Seq.{sets, sets-eq}
use Rattle.text.specs.Text.{put, Put}
use Rattle.value.specs.Value.{encode_in, encode}
use Rattle.value.proofs.Laws.{encode_1, encode_2, encode_3}
use Rattle.value.proofs.write.Goals as goal

-- a run of stores puts the bytes
stored : (bytes d : List ℕ) (at : ℕ) → at + length bytes ≤ length d → sets d at bytes ≡ put d at bytes
unfolding put
stored bytes d at h = sets-eq bytes d at h

nonempty : (g x : ℕ) → 0 < length (encode_in (suc g) x)
unfolding encode_in
nonempty g x = cases (ltb x 128) (λ e. rw e (omega arith)) (λ e. rw e (omega arith))

longer : (g x : ℕ) → 128 ≤ x → length (encode_in (suc g) x) ≡ suc (length (encode_in g (x / 128)))
unfolding encode_in
longer g x m = rw (le-ltb x 128 m)

module _ (d : List ℕ) (at x : ℕ) (fits : at + length (encode x) ≤ length d) where
  -- the value's bytes, their number, and so room for each
  made : (bytes : List ℕ) → encode x ≡ bytes → Put d at (encode x) (at + length bytes) (sets d at bytes)
  made bytes e = rw e (record { next_is = refl; after_is = stored bytes d at (rw e at fits) })

  room-1 : at < length d
  room-1 = omega (arith, nonempty 2 x)

  room-2 : 128 ≤ x → at + 1 < length d
  room-2 m = omega (arith, longer 2 x m, nonempty 1 (x / 128))

  room-3 : 16384 ≤ x → at + 2 < length d
  room-3 m = omega (arith, longer 2 x (omega arith), longer 1 (x / 128) (omega arith), nonempty 0 (x / 128 / 128))

  put_1 : x < 128 → Put d at (encode x) (at + 1) (set d at x)
  put_1 h = made (x ∷ []) (encode_1 x h)

  put_2 : 128 ≤ x → x < 16384 → Put d at (encode x) (at + 2) (set (set d at (x % 128 + 128)) (at + 1) (x / 128))
  put_2 m h = rw add-one (made ((x % 128 + 128) ∷ x / 128 ∷ []) (encode_2 x m h))

  put_3 : 16384 ≤ x → x < 2097152 → Put d at (encode x) (at + 3) (set (set (set d at (x % 128 + 128)) (at + 1) (x / 128 % 128 + 128)) (at + 2) (x / 16384))
  put_3 m h = rw (add-one, add-two) (made ((x % 128 + 128) ∷ (x / 128 % 128 + 128) ∷ x / 16384 ∷ []) (encode_3 x m h))

pub bounds-dest-at : goal.bounds-dest-at
bounds-dest-at c = search (room-1, rules)

pub returns-then-x-lt128 : goal.returns-then-x-lt128
returns-then-x-lt128 c = put_1 _ _ _ c.requires.1 c.if-x-lt128.true

pub bounds-dest-at-2 : goal.bounds-dest-at-2
bounds-dest-at-2 c = search (room-1, rules)

pub bounds-dest-at-then-x-lt16384 : goal.bounds-dest-at-then-x-lt16384
bounds-dest-at-then-x-lt16384 c = search (room-2, rules)

pub returns-then-x-lt16384 : goal.returns-then-x-lt16384
returns-then-x-lt16384 c = put_2 _ _ _ c.requires.1 c.if-x-lt128.false c.if-x-lt16384.true

pub bounds-dest-at-3 : goal.bounds-dest-at-3
bounds-dest-at-3 c = search (room-2, rules)

pub bounds-dest-at-4 : goal.bounds-dest-at-4
bounds-dest-at-4 c = search (room-3, rules)

pub returns : goal.returns
returns c = put_3 _ _ _ c.requires.1 c.if-x-lt16384.false c.requires.0
