-- The equation of `uses`, with a tree opened by one level, and what is refused in several lists of names and calls.
use Rattle.std.proofs.Common.{◌≡◌, ◌∙◌, ap, refl, List, [], ◌∷◌, ◌++◌, Option}
use Rattle.gq_base.proofs.OptionLaws.{or_assoc}
use Rattle.std.specs.Option.{option_or}
use Rattle.std.proofs.lemmas.List.{length-map}
use Rattle.gq_ast.specs.declared.Ast.{Ast, out-Ast, fold_out-Ast}
use Rattle.gq_resolve.proofs.Resolved.{answered, opens}
use Rattle.gq_scopes.specs.Patterns.{Name}
use Rattle.gq_resolve.specs.Uses.{Use, uses, uses_step, all_uses, first_name}
use Rattle.gq_resolve.specs.steps.Uses.{first_of}

pub uses_out : (t : Ast) → uses t ≡ uses_step (answered uses (out-Ast t).node)
unfolding uses
uses_out t = fold_out-Ast (List Use) (λ a. uses_step a.node) t ∙ ap uses_step (opens (List Use) uses (out-Ast t).node)

-- the first refused name of one list and then another
pub first_name_append : (check : Use → Option Name) (us vs : List Use) → first_name check (us ++ vs) ≡ option_or (first_name check us) (first_name check vs)
first_name_append check [] vs = refl
first_name_append check (u ∷ us) vs =
    ap (option_or (check u)) (first_name_append check us vs)
    ∙ or_assoc (check u) (first_name check us) (first_name check vs)

-- the first refused name of several lists together
pub first_name_all : (check : Use → Option Name) (uss : List (List Use)) → first_name check (all_uses uss) ≡ first_of check uss
first_name_all check [] = refl
first_name_all check (us ∷ uss) = first_name_append check us (all_uses uss) ∙ ap (option_or (first_name check us)) (first_name_all check uss)

pub ruleset opening = (uses_out, first_name_append, first_name_all, length-map)
