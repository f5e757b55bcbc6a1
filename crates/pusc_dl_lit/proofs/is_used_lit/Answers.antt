-- `pusc_dl_lit::is_used_lit` meets its contract.
use Rattle.base.proofs.Prelude.{ap, ◌∙◌}
use Rattle.clusters.specs.{Group.{cluster_starts, group_in}, declared.Logical.Logical}
use Rattle.pusc_dl_lit.specs.Lit.{has_group}
use Rattle.pusc_dl.specs.Map.{logical_of, used_group}
use Rattle.pusc_dl_lit.proofs.is_used_lit.Goals as goal

pub returns : goal.returns
unfolding used_group logical_of
returns c =
    c.has_group.ensures
    ∙ ap (has_group _) (c.group_in.ensures.0 ∙ ap (λ (l : Logical). group_in cluster_starts l.0) c.renumber-logical.ensures.0)
