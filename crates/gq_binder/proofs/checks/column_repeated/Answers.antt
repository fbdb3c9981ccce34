use Rattle.std.proofs.Common.{◌∙◌, sym, ap, not, take, List, [], ◌∷◌, ◌++◌, Option, Some}
use Rattle.std.specs.List.{list_any}
use Rattle.gq_bound.specs.Refusals.{repeating_column}
use Rattle.gq_bound.specs.declared.refusal.BindRefusal.TheVariants as refusal
use Rattle.gq_resolve.specs.Uses.{refused_unless}
use Rattle.gq_scopes.specs.Patterns.{Name, is_called}
use Rattle.gq_scopes.specs.declared.scope.Column.{Column}
use Rattle.gq_bound.proofs.MetLemmas.{refused_as, passed, named_before, next_named}
use Rattle.gq_binder.proofs.checks.column_repeated.Goals as goal

pub returns-then-contains : goal.returns-then-contains
returns-then-contains c =
    let x : Column = c.column-item.result in
    let met = sym (named_before (λ y. y.name) x.name (take c.loop-column.column-index c.args.columns.now))
    ∙ sym (ap (λ (t : List (Option Name)). list_any (is_called x.name) t) c.loop-column.invariant.met) ∙ sym c.contains.ensures ∙ c.if-contains.true in
    λ _.
    refused_as repeating_column _ _ c.loop-column.invariant.first c.loop-column-test.true x c.column-item.is refusal.ColumnRepeated x.name (ap (λ b. refused_unless (not b) x.name) met)
    ∙ ap (λ n. Some (refusal.ColumnRepeated n)) (sym c.in_ok-name.ensures)

pub loop-column-preserved : goal.loop-column-preserved
loop-column-preserved c =
    let x : Column = c.column-item.result in
    let not_met = sym (named_before (λ y. y.name) x.name (take c.loop-column.column-index c.args.columns.now))
    ∙ sym (ap (λ (t : List (Option Name)). list_any (is_called x.name) t) c.loop-column.invariant.met) ∙ sym c.contains.ensures ∙ c.if-contains.false in
    record {
      met = c.in_ok-push_name.ensures.pushed ∙ ap (λ (t : List (Option Name)). t ++ Some x.name ∷ []) c.loop-column.invariant.met ∙ next_named (λ (y : Column). y.name) _ _ c.loop-column-test.true x c.column-item.is;
      first = passed repeating_column _ _ c.loop-column.invariant.first c.loop-column-test.true x c.column-item.is (ap (λ b. refused_unless (not b) x.name) not_met);
    }
