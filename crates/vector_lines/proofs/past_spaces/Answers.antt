-- `vector_lines::past_spaces` meets its contract: the chain gives the spaces that the text there starts with.
use Rattle.std.proofs.Common.{ℕ, ◌+◌, ◌∙◌, ◌≡◌, ap, drop, eqb, arith, rules, tests}
use Rattle.std.specs.List.{prefix_len}
use Rattle.std.proofs.lemmas.Iterator.{YieldsList-from_slice}
use Rattle.std.proofs.lemmas.Iterator.Search.{YieldsList-from_take_while}
use Rattle.std.proofs.lemmas.Iterator.Consumers.{count_from_yields_List}
use Rattle.std.proofs.lemmas.List.Folds.{length-prefix_len}
use Rattle.std.proofs.lemmas.Slice.{between_to_end}
use Rattle.vector_lines.specs.Model.{past_spaces}
use Rattle.vector_lines.proofs.Reading.{spaces_counted, no_spaces, beyond}
use Rattle.vector_lines.proofs.past_spaces.Goals as goal

pub returns-in-Some : goal.returns-in-Some
returns-in-Some c =
    let text = c.in-Some.rest.now in
    let counted : c.count.result ≡ prefix_len (λ byte. eqb byte 32) text =
    count_from_yields_List c.take_while.result _ c.count.ensures.ran
    (YieldsList-from_take_while _ (λ byte. eqb byte 32) (YieldsList-from_slice text cc) c.take_while.ensures.closure c.take_while.ensures.done (λ x b q k. search (rules, tests)))
    ∙ length-prefix_len (λ byte. eqb byte 32) text in
    let l = c.in-Some.ensures.lookup.0 in
    let rest : text ≡ drop c.args.at c.args.src.now = l.2 ∙ between_to_end c.args.src.now c.args.at _ (omega arith) in
    ap (λ (n : ℕ). c.args.at + n) counted ∙ spaces_counted c.args.at text ∙ ap (past_spaces c.args.at) rest

pub returns-in-None : goal.returns-in-None
returns-in-None c = no_spaces c.args.src.now c.args.at (beyond c.in-None.ensures.lookup.0)
