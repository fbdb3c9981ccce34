use Rattle.std.proofs.Common.{◌∙◌, ◌&&◌, ap, sym}
use Rattle.gq_exists.specs.steps.Levels.{is_path, links_of}
use Rattle.gq_exists.proofs.Fronts.{has_path}
use Rattle.gq_exists.proofs.paths.Paths.has.Goals as goal

pub returns-then-self : goal.returns-then-self
returns-then-self c =
    let levels = links_of c.args.self.now.levels.items in
    c.is_found.ensures ∙ ap (λ l. is_path (links_of l) 0 c.args.key.now) c.as_slice.ensures.value ∙ ap (λ b. b && is_path levels 0 c.args.key.now) (sym c.if-self.true)
    ∙ has_path c.args.self.now.any levels c.args.key.now c.requires

pub returns-else-self : goal.returns-else-self
returns-else-self c =
    let levels = links_of c.args.self.now.levels.items in
    c.if-self.false ∙ ap (λ b. b && is_path levels 0 c.args.key.now) (sym c.if-self.false) ∙ has_path c.args.self.now.any levels c.args.key.now c.requires
