-- `collision::amc_hits` meets its contract.
use Rattle.base.proofs.Prelude.{◌≡◌, ap₂, ◌∙◌, ◌+◌, ◌%◌, arith, eqb, rules, get_or}
use Rattle.amc.proofs.Sequence.{traffic_at}
use Rattle.collision.specs.Collision.{amc_hit}
use Rattle.collision.proofs.amc_hits.Goals as goal

pub returns : goal.returns
unfolding amc_hit
returns c =
    c.marked.ensures (amc_hit c.args.cell_a c.args.cell_b)
    (λ j same h p.
    let e : same ≡ eqb (get_or c.places-places_a.result ((j + c.args.cell_a % 48) % 48) 0) (get_or c.places-places_b.result ((j + c.args.cell_b % 48) % 48) 0) = search rules in
    e ∙ ap₂ eqb
    (c.places-places_a.ensures ((j + c.args.cell_a % 48) % 48) (omega arith) ∙ traffic_at c.args.cell_a j)
    (c.places-places_b.ensures ((j + c.args.cell_b % 48) % 48) (omega arith) ∙ traffic_at c.args.cell_b j))
