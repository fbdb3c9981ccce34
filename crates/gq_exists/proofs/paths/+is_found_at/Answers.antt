use Rattle.std.proofs.Common.{◌∙◌, ◌∷◌, ap, ap₂, map, sym}
use Rattle.gq_exists.specs.steps.Levels.{is_path_at, links_of}
use Rattle.gq_exists.proofs.Missing.{no_link_at}
use Rattle.gq_exists.proofs.Fronts.{same_tests}
use Rattle.gq_exists.proofs.paths.+is_found_at.Goals as goal

pub returns-in-None : goal.returns-in-None
returns-in-None g t c =
    let rows = (g.R.Assigned.assignment c.args.row.now).nodes in
    let level = c.in-Some.level.now in
    let levels = c.in-Some.levels.now in
    let nodes = c.in-Some-split_first.nodes.now in
    no_link_at level.keys (links_of levels) c.new.result c.args.front c.in-Some-node.node (map rows nodes)
    (λ i. record { front = c.new.ensures.front i; table = c.new.ensures.table i; row = c.new.ensures.row i }) (c.in-None.ensures.found ∙ same_tests c.new.result level.keys)
    ∙ ap (λ o. is_path_at (level.keys ∷ links_of levels) c.args.front (o ∷ map rows nodes)) c.in-Some-node.ensures
    ∙ sym (ap₂ (λ ls vs. is_path_at (links_of ls) c.args.front (map rows vs)) c.in-Some.ensures.cases.0 c.in-Some-split_first.ensures.cases.0)
