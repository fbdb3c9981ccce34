use Rattle.std.proofs.Common.{◌∙◌, ◌++◌, sym, ap, [], ◌∷◌}
use Rattle.gq_join.proofs.Sorting.{range_more}
use Rattle.gq_optional.proofs.optionals.first_variables.Goals as goal

pub loop-variable-preserved : goal.loop-variable-preserved
loop-variable-preserved c = c.in_ok-push.ensures.items ∙ ap (λ l. l ++ c.loop-variable.variable ∷ []) c.loop-variable.invariant ∙ sym (range_more c.loop-variable.variable)
