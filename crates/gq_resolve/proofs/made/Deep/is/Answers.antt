use Rattle.std.proofs.Common.{◌∙◌, ap, sym}
use Rattle.std.proofs.lemmas.Bool.{ne_eqb}
use Rattle.gq_resolve.specs.steps.Depths.{told_depth}
use Rattle.gq_resolve.proofs.Walks.{deep_apart}
use Rattle.gq_resolve.proofs.made.Deep.is.Goals as goal

pub returns-else-self-depth : goal.returns-else-self-depth
returns-else-self-depth c =
    ne_eqb c.self.inside.depth c.args.depth c.if-self-depth.false
    ∙ sym (deep_apart c.args.expr.now c.args.self.now (λ same. c.if-self-depth.false (c.self.invariant ∙ ap told_depth c.self.view_is ∙ same ∙ sym c.requires)))
