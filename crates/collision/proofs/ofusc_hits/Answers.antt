-- `collision::ofusc_hits` meets its contract.
use Rattle.base.proofs.Prelude.{◌≡◌, ◌*◌, ◌∙◌, arith, eqb, rules, get_or}
use lib.Bits.{bit_xor}
use Rattle.ofusc.proofs.Sequence.{size}
use Rattle.collision.specs.Collision.{ofusc_hit}
use Rattle.collision.proofs.Group.{number_hit}
use Rattle.collision.proofs.ofusc_hits.Goals as goal

pub overflow_cast-s : goal.overflow_cast-s
overflow_cast-s c = omega (arith, size c.args.width.is_width, c.requires.a_lt_n.0)

pub overflow_cast-t : goal.overflow_cast-t
overflow_cast-t c = omega (arith, size c.args.width.is_width, c.requires.a_lt_n.1)

pub returns : goal.returns
returns c =
    let p = c.requires in
    c.marked.ensures (ofusc_hit (64 * c.args.width.n) c.args.cell_a c.args.a c.args.cell_b c.args.b)
    (λ k same h q.
    let e : same ≡ eqb (bit_xor (get_or c.table-numbers_a.result k 0) c.args.a) (bit_xor (get_or c.table-numbers_b.result k 0) c.args.b) = search rules in
    e ∙ rw (c.table-numbers_a.ensures k h, c.table-numbers_b.ensures k h)
    (number_hit c.args.width.is_width k h _ _ _ _ p.a_lt_n.0 p.a_lt_n.1))
