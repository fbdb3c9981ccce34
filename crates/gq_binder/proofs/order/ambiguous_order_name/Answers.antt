use Rattle.std.proofs.Common.{sym, subst}
use Rattle.std.specs.Option.{option_map}
use Rattle.gq_bound.specs.Refusals.{first_in, sorts_in}
use Rattle.gq_bound.specs.declared.refusal.BindRefusal.TheVariants as refusal
use Rattle.gq_bound.specs.Checks.{Checks}
use Rattle.gq_scopes.specs.Scopes.{Scope}
use Rattle.gq_resolve.specs.Renames.{ambiguous_name}
use Rattle.gq_binder.proofs.order.ambiguous_order_name.Goals as goal

pub returns : goal.returns
returns c =
    subst (λ (s : Scope). Checks (option_map refusal.AmbiguousOrderName (first_in (λ _. ambiguous_name s c.args.query.now.items) (sorts_in s c.args.query.now.order))) c.ambiguous_in.result)
    c.in_ok-scope.ensures c.ambiguous_in.ensures
