-- `burst_list::ask_list` meets its contract.
use Rattle.base.proofs.{Prelude.{◌≡◌, ap, ◌∙◌, true, List, ℕ, ◌+◌, ◌<◌, arith}, Test.{told_no, told_yes}}
use borrow.Author.Count.{below_none, below_more}
use Rattle.refusal.proofs.Asked.{number_on, asked_no, asked_yes}
use Rattle.burst.specs.{declared.Burst.Burst, declared.Edges.Edges, Burst.{is_inside}, Model.edges_of}
use Rattle.burst.proofs.Cover.{inside}
use Rattle.burst_list.specs.List.{is_list, burst_count}
use Rattle.burst_list.proofs.Each.{list_test, list_of, no_list, is_outside, is_overlapping, all_pass}
use Rattle.burst_list.proofs.Columns.{held_none, held_next, held_apart}
use Rattle.burst_list.proofs.ask_list.Goals as goal

few : (numbers : List ℕ) {i : ℕ} → is_list numbers ≡ true → i < burst_count numbers → i < 64
few numbers e h = omega (arith, list_of numbers e)

-- a burst that lies in its zone has small edges
small : {subchannel_end slot_end : ℕ} (b : Burst) → (subchannel_end < 65536) × (slot_end < 65536) → is_inside subchannel_end slot_end b ≡ true
    → (b.subchannel + b.subchannels < 65536) × (b.slot + b.slots < 65536)
small b limits e = let ends = inside _ _ _ e in (omega arith, omega arith)

edges : {b b' : Burst} {end slot_end : ℕ} → b ≡ b' → end ≡ b.subchannel + b.subchannels → slot_end ≡ b.slot + b.slots
    → ◌≡◌ {A = Edges} (record { start = b.subchannel; end = end; slot_start = b.slot; slot_end = slot_end }) (edges_of b')
edges e f g = rw (f, g) (ap edges_of e)

pub returns-in_err-ask : goal.returns-in_err-ask
returns-in_err-ask c =
    let no' = asked_no _ 18 _ c.in_err-ask.ensures in
    number_on _ _ c.from_residual.ensures.1 _ (rw no'.1 (no_list _ _ _ (told_no _ (list_test _) no'.0)))

pub loop-i-init : goal.loop-i-init
loop-i-init c = (told_yes _ (list_test _) (asked_yes _ 18 _ c.in_ok-ask.ensures), below_none _, held_none _)

pub burst_at-burst-requires : goal.burst_at-burst-requires
burst_at-burst-requires c = (few _ c.loop-i.invariant.0 c.loop-i-test.true, omega (arith, c.loop-i-test.true))

-- each outcome by the questions
pub returns-in_err-ask-2 : goal.returns-in_err-ask-2
returns-in_err-ask-2 c =
    let inv = c.loop-i.invariant in
    let no' = asked_no _ 18 _ c.in_err-ask-2.ensures in
    number_on _ _ c.from_residual-in_err-ask-2.ensures.1 _
    (rw no'.1 (is_outside _ _ _ inv.0 c.loop-i-test.true inv.1 (told_no _ (c.is_inside.ensures ∙ ap (is_inside _ _) c.burst_at-burst.ensures) no'.0)))

pub overflow_cast-edges : goal.overflow_cast-edges
overflow_cast-edges c = let s = small _ c.requires (told_yes _ c.is_inside.ensures (asked_yes _ 18 _ c.in_ok-ask-2.ensures)) in omega (arith, s)

pub overflow_cast-edges-in-loop-i : goal.overflow_cast-edges-in-loop-i
overflow_cast-edges-in-loop-i c = let s = small _ c.requires (told_yes _ c.is_inside.ensures (asked_yes _ 18 _ c.in_ok-ask-2.ensures)) in omega (arith, s, c.end_of.ensures)

pub overflow_cast-edges-in-loop-i-2 : goal.overflow_cast-edges-in-loop-i-2
overflow_cast-edges-in-loop-i-2 c = let s = small _ c.requires (told_yes _ c.is_inside.ensures (asked_yes _ 18 _ c.in_ok-ask-2.ensures)) in omega (arith, s)

pub overflow_cast-edges-in-loop-i-3 : goal.overflow_cast-edges-in-loop-i-3
overflow_cast-edges-in-loop-i-3 c = let s = small _ c.requires (told_yes _ c.is_inside.ensures (asked_yes _ 18 _ c.in_ok-ask-2.ensures)) in omega (arith, s, c.end_of-in-loop-i.ensures)

pub is_apart-requires : goal.is_apart-requires
is_apart-requires c = few _ c.loop-i.invariant.0 c.loop-i-test.true

pub returns-in_err-ask-3 : goal.returns-in_err-ask-3
returns-in_err-ask-3 c =
    let inv = c.loop-i.invariant in
    let no' = asked_no _ 19 _ c.in_err-ask-3.ensures in
    let is-inside = told_yes _ (c.is_inside.ensures ∙ ap (is_inside _ _) c.burst_at-burst.ensures) (asked_yes _ 18 _ c.in_ok-ask-2.ensures) in
    let same = edges c.burst_at-burst.ensures c.end_of.ensures c.end_of-in-loop-i.ensures in
    let apart = c.is_apart.ensures ∙ held_apart _ same (held_next _ same inv.2 (few _ inv.0 c.loop-i-test.true)) in
    number_on _ _ c.from_residual-in_err-ask-3.ensures.1 _ (rw no'.1 (is_overlapping _ _ _ inv.0 c.loop-i-test.true inv.1 is-inside (told_no _ apart no'.0)))

pub loop-i-preserved : goal.loop-i-preserved
loop-i-preserved c =
    let inv = c.loop-i.invariant in
    let is-inside = told_yes _ (c.is_inside.ensures ∙ ap (is_inside _ _) c.burst_at-burst.ensures) (asked_yes _ 18 _ c.in_ok-ask-2.ensures) in
    let same = edges c.burst_at-burst.ensures c.end_of.ensures c.end_of-in-loop-i.ensures in
    let next = held_next _ same inv.2 (few _ inv.0 c.loop-i-test.true) in
    let apart = c.is_apart.ensures ∙ held_apart _ same next in
    (inv.0, below_more _ _ inv.1 (record { inside = is-inside; apart = told_yes _ apart (asked_yes _ 19 _ c.in_ok-ask-3.ensures) }), next)

pub returns : goal.returns
returns c = let inv = c.loop-i.invariant in all_pass _ _ _ inv.0 (λ k h. inv.1 k (omega (arith, c.loop-i-test.false)))
