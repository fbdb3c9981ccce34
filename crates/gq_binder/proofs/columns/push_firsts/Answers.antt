use Rattle.std.proofs.Common.{◌∙◌, ap, List, [], ◌∷◌, ◌++◌, Option, Some}
use Rattle.gq_scopes.specs.Patterns.{NamedVariable}
use Rattle.gq_bound.specs.Columns.{column_of}
use Rattle.gq_scopes.specs.Patterns.{Name}
use Rattle.gq_bound.proofs.MetLemmas.{firsts_next, next_named}
use Rattle.gq_binder.proofs.columns.push_firsts.Goals as goal

pub loop-variable-preserved : goal.loop-variable-preserved
loop-variable-preserved c =
    let x : NamedVariable = c.variable-item.result in
    record {
      met = c.in_ok-push_name.ensures.pushed ∙ ap (λ (n : NamedVariable). c.loop-variable.met ++ Some n.name ∷ []) c.variable.view_is ∙ ap (λ (t : List (Option Name)). t ++ Some x.name ∷ []) c.loop-variable.invariant.met ∙ next_named (λ (y : NamedVariable). y.name) _ _ c.loop-variable-test.true x c.variable-item.is;
      listed = firsts_next column_of _ _ c.loop-variable-test.true x c.variable-item.is _ c.loop-variable.invariant.met _ _ _ c.loop-variable.invariant.listed c.in_ok-push_unless_met.ensures;
    }
