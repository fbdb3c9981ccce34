use Rattle.std.proofs.Common.{◌∙◌, ◌&&◌, ap, map, sym}
use Rattle.gq_exists.specs.steps.Levels.{is_path_at, links_of}
use Rattle.gq_exists.proofs.Missing.{has_path_at}
use Rattle.gq_exists.proofs.paths.Paths.has_at.Goals as goal

pub returns-then-self : goal.returns-then-self
returns-then-self t c =
    let levels = links_of c.args.self.now.levels.items in
    let here = map (t.R.Assigned.assignment c.args.row.now).nodes c.args.nodes.now in
    c.is_found_at.ensures ∙ ap (λ l. is_path_at (links_of l) 0 here) c.as_slice.ensures.value ∙ ap (λ b. b && is_path_at levels 0 here) (sym c.if-self.true)
    ∙ has_path_at c.args.self.now.any levels here c.requires

pub returns-else-self : goal.returns-else-self
returns-else-self t c =
    let levels = links_of c.args.self.now.levels.items in
    let here = map (t.R.Assigned.assignment c.args.row.now).nodes c.args.nodes.now in
    c.if-self.false ∙ ap (λ b. b && is_path_at levels 0 here) (sym c.if-self.false) ∙ has_path_at c.args.self.now.any levels here c.requires
