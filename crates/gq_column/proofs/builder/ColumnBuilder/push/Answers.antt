use Rattle.std.proofs.Common.{◌≡◌, List, Option, Some, None, Bool, true, false, [], ◌∷◌, ◌++◌, ℤ, ap, sym, ◌∙◌, rules, w64}
use Rattle.std.specs.Prelude.{FitsSigned}
use Rattle.std.proofs.lemmas.Int.{to_z-of_z}
use Rattle.gq_column.specs.steps.Cells.{flagged}
use Rattle.gq_column.proofs.Flagged.{flagged_null, flagged_value}
use Rattle.gq_column.proofs.builder.ColumnBuilder.push.Goals as goal

pub returns-in_ok-push : goal.returns-in_ok-push
returns-in_ok-push c =
    let flags = c.self.inside.flags.items in
    let kept = c.self.inside.kept.items in
    let v = c.in-Some.value in
    let fits : FitsSigned w64 v = search rules in
    let pushed : c.push.new.self.items ≡ kept ++ v ∷ [] = c.in_ok-push.ensures.items ∙ ap (λ (z : ℤ). kept ++ z ∷ []) (to_z-of_z w64 v fits) in
    let marked : c.push_reserved.new.self.items ≡ flags ++ true ∷ [] = c.push_reserved.ensures.items ∙ ap (λ (l : List Bool). l ++ true ∷ []) c.in_ok-reserve.ensures.items in
    ap (λ (l : List Bool). flagged l c.push.new.self.items) marked ∙ ap (flagged (flags ++ true ∷ [])) pushed ∙ flagged_value flags kept v c.self.invariant
    ∙ ap (λ (l : List (Option ℤ)). l ++ Some v ∷ []) c.self.view_is ∙ ap (λ (o : Option ℤ). c.args.self.now ++ o ∷ []) (sym c.in-Some.is)

pub returns-in_default : goal.returns-in_default
returns-in_default c =
    let flags = c.self.inside.flags.items in
    let kept = c.self.inside.kept.items in
    let marked : c.push_reserved-in_default.new.self.items ≡ flags ++ false ∷ [] = c.push_reserved-in_default.ensures.items ∙ ap (λ (l : List Bool). l ++ false ∷ []) c.in_ok-reserve.ensures.items in
    ap (λ (l : List Bool). flagged l kept) marked ∙ flagged_null flags kept
    ∙ ap (λ (l : List (Option ℤ)). l ++ None ∷ []) c.self.view_is ∙ ap (λ (o : Option ℤ). c.args.self.now ++ o ∷ []) (sym c.in_default.is)
