-- `value::read` meets its contract: what each answer says is the value of the bytes from the place on.
use Rattle.base.proofs.Prelude.{◌≡◌, sym, ap, ◌∙◌, List, ℕ, suc, ◌+◌, ◌-◌, ◌<◌, ◌≤◌, arith, length, drop, get_or, ltb, ltb-true, ltb-false}
use native.Mathlib.Numerals.{add-one}
use lib.{ListN.drop_of_length-le, Seq.drop-cons}
use Rattle.base.specs.Answer.{Answer, accepted, refused, ask}
use Rattle.refusal.proofs.Asked.{answer_on, asked_no, asked_yes}
use Rattle.value.specs.{declared.Value.Value, Value.{more, value_in, value_of}}
use Rattle.value.proofs.Laws.{last, follow, some, nil}
use Rattle.value.proofs.read.Goals as goal

-- what stands from a place on: no byte, a last byte, or a byte that more follow
module _ (g : ℕ) (s : List ℕ) (at : ℕ) where
  none-at : length s ≤ at → value_in (suc g) (drop at s) ≡ refused 10
  unfolding value_in
  none-at h = rw (drop_of_length-le s {i = at})

  last-at : (a : ℕ) → a ≡ get_or s at 0 → at < length s → a < 128 → value_in (suc g) (drop at s) ≡ accepted (record { value = a; bytes = 1 })
  last-at a e h l = rw (drop-cons s at 0, ← e) (last g a (drop (suc at) s) l)

record Follows (s : List ℕ) (at a : ℕ) : Type 0 where
  is : a ≡ get_or s at 0
  inside : at < length s
  top : 128 ≤ a

follow_at : (g : ℕ) {s : List ℕ} {at a : ℕ} → Follows s at a → value_in (suc g) (drop at s) ≡ more a (value_in g (drop (at + 1) s))
follow_at g {s} {at} {a} f = rw (drop-cons s at 0 f.inside, ← f.is, add-one) (follow g a (drop (suc at) s) f.top)

-- one such byte: nothing is behind it, or a last byte
module _ {s : List ℕ} {at a : ℕ} (f : Follows s at a) where
  one : {r : Answer Value} → value_in 2 (drop (at + 1) s) ≡ r → more a r ≡ value_of (drop at s)
  one e = sym (follow_at 2 f ∙ ap (more a) e)

  one_none : length s ≤ at + 1 → refused 10 ≡ value_of (drop at s)
  one_none h = one (none-at 1 s (at + 1) h)

  one_last : {b : ℕ} → b ≡ get_or s (at + 1) 0 → at + 1 < length s → b < 128 → more a (accepted (record { value = b; bytes = 1 })) ≡ value_of (drop at s)
  one_last {b} e h l = one (last-at 1 s (at + 1) b e h l)

  -- two such bytes, and then a third too
  module _ {b : ℕ} (g : Follows s (at + 1) b) where
    next : at + 1 + 1 ≡ at + 2
    next = omega arith

    two : {r : Answer Value} → value_in 1 (drop (at + 2) s) ≡ r → more a (more b r) ≡ value_of (drop at s)
    two {r} e = let e' : value_in 1 (drop (at + 1 + 1) s) ≡ r = rw next e in one (follow_at 1 g ∙ ap (more b) e')

    two_none : length s ≤ at + 2 → refused 10 ≡ value_of (drop at s)
    two_none h = two (none-at 0 s (at + 2) h)

    two-last : {x : ℕ} → x ≡ get_or s (at + 2) 0 → at + 2 < length s → x < 128 → more a (more b (accepted (record { value = x; bytes = 1 }))) ≡ value_of (drop at s)
    two-last {x} e h l = two (last-at 0 s (at + 2) x e h l)

    three : {x : ℕ} → Follows s (at + 2) x → refused 11 ≡ value_of (drop at s)
    unfolding value_in
    three h = two (follow_at 0 h)

-- a test that was asked, answered yes and no
below : {n m : ℕ} (k : ℕ) {x : Unit {0}} → accepted x ≡ ask (ltb n m) k (accepted tt) → n < m
below k y = ltb-true _ _ (asked_yes _ k _ y)

no : {n m : ℕ} (k : ℕ) {number : ℕ} {r : Answer Value} → refused number ≡ ask {A = Unit {0}} (ltb n m) k (accepted tt) → (m ≤ n → refused k ≡ r) → refused number ≡ r
no k h f = let p = asked_no _ k _ h in rw p.1 (f (ltb-false _ _ p.0))

-- the bytes that more follow, by the tests
module _ {s : List ℕ} (at : ℕ) where
  first : {a : ℕ} {x : Unit {0}} → a ≡ get_or s at 0 → accepted x ≡ ask (ltb at (length s)) 10 (accepted tt) → 128 ≤ a → Follows s at a
  first e y m = record { is = e; inside = below 10 y; top = m }

  second : {b : ℕ} {x : Unit {0}} → b ≡ get_or s (at + 1) 0 → accepted x ≡ ask (ltb 1 (length s - at)) 10 (accepted tt) → 128 ≤ b → Follows s (at + 1) b
  second e y m = record { is = e; inside = omega (arith, below 10 y); top = m }

pub returns-in_err-ask : goal.returns-in_err-ask
returns-in_err-ask c = answer_on _ _ c.from_residual.ensures.1 _ (no 10 c.in_err-ask.ensures (λ f. sym (none-at 2 _ _ f)))

pub returns-then-a-lt128 : goal.returns-then-a-lt128
returns-then-a-lt128 c = sym (last-at 2 _ _ _ c.from-a.ensures (below 10 c.in_ok-ask.ensures) c.if-a-lt128.true)

pub returns-in_err-ask-2 : goal.returns-in_err-ask-2
returns-in_err-ask-2 c =
    let a = first _ c.from-a.ensures c.in_ok-ask.ensures c.if-a-lt128.false in
    answer_on _ _ c.from_residual-in_err-ask-2.ensures.1 _ (no 10 c.in_err-ask-2.ensures (λ f. one_none a (omega arith)))

pub returns-in_err-ask-3 : goal.returns-in_err-ask-3
returns-in_err-ask-3 c =
    let a = first _ c.from-a.ensures c.in_ok-ask.ensures c.if-a-lt128.false in
    let no' = asked_no _ 11 _ c.in_err-ask-3.ensures in
    let none : c.from-b.result ≡ 0 = omega (arith, ltb-false, no'.0) in
    answer_on _ _ c.from_residual-in_err-ask-3.ensures.1 _
    (rw no'.1 (sym (nil _ _ 1 none) ∙ one_last a c.from-b.ensures (omega (arith, below 10 c.in_ok-ask-2.ensures)) (omega arith)))

pub returns-then-b-lt128 : goal.returns-then-b-lt128
returns-then-b-lt128 c =
    let a = first _ c.from-a.ensures c.in_ok-ask.ensures c.if-a-lt128.false in
    let worth : 0 < c.from-b.result = omega (arith, ltb-true, asked_yes _ 11 _ c.in_ok-ask-3.ensures) in
    sym (some _ _ 1 (λ z. omega arith)) ∙ one_last a c.from-b.ensures (omega (arith, below 10 c.in_ok-ask-2.ensures)) c.if-b-lt128.true

pub returns-in_err-ask-4 : goal.returns-in_err-ask-4
returns-in_err-ask-4 c =
    let a = first _ c.from-a.ensures c.in_ok-ask.ensures c.if-a-lt128.false in
    let b = second _ c.from-b.ensures c.in_ok-ask-2.ensures c.if-b-lt128.false in
    answer_on _ _ c.from_residual-in_err-ask-4.ensures.1 _ (no 10 c.in_err-ask-4.ensures (λ f. two_none a b (omega arith)))

pub returns-in_err-ask-5 : goal.returns-in_err-ask-5
returns-in_err-ask-5 c =
    let a = first _ c.from-a.ensures c.in_ok-ask.ensures c.if-a-lt128.false in
    let b = second _ c.from-b.ensures c.in_ok-ask-2.ensures c.if-b-lt128.false in
    let no' = asked_no _ 11 _ c.in_err-ask-5.ensures in
    let none : c.from-c.result ≡ 0 = omega (arith, ltb-false, no'.0) in
    answer_on _ _ c.from_residual-in_err-ask-5.ensures.1 _
    (rw no'.1
    (ap (more c.from-a.result) (sym (nil c.from-b.result c.from-c.result 1 none))
    ∙ two-last a b c.from-c.ensures (omega (arith, below 10 c.in_ok-ask-4.ensures)) (omega arith)))

pub returns-in_err-ask-6 : goal.returns-in_err-ask-6
returns-in_err-ask-6 c =
    let a = first _ c.from-a.ensures c.in_ok-ask.ensures c.if-a-lt128.false in
    let b = second _ c.from-b.ensures c.in_ok-ask-2.ensures c.if-b-lt128.false in
    let no' = asked_no _ 11 _ c.in_err-ask-6.ensures in
    let top : 128 ≤ c.from-c.result = omega (arith, ltb-false, no'.0) in
    answer_on _ _ c.from_residual-in_err-ask-6.ensures.1 _
    (rw no'.1 (three a b (record { is = c.from-c.ensures; inside = omega (arith, below 10 c.in_ok-ask-4.ensures); top = top })))

pub returns : goal.returns
returns c =
    let a = first _ c.from-a.ensures c.in_ok-ask.ensures c.if-a-lt128.false in
    let b = second _ c.from-b.ensures c.in_ok-ask-2.ensures c.if-b-lt128.false in
    let worth : 0 < c.from-c.result = omega (arith, ltb-true, asked_yes _ 11 _ c.in_ok-ask-5.ensures) in
    let end : c.from-c.result < 128 = omega (arith, ltb-true, asked_yes _ 11 _ c.in_ok-ask-6.ensures) in
    sym (some _ _ 2 (λ z. omega arith)) ∙ ap (more _) (sym (some _ _ 1 (λ z. omega arith))) ∙ two-last a b c.from-c.ensures (omega (arith, below 10 c.in_ok-ask-4.ensures)) end
