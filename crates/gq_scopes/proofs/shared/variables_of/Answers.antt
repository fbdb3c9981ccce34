use Rattle.std.proofs.Common.{◌∙◌, ◌+◌, ◌++◌, ◌∷◌, [], drop, sym, ap}
use Rattle.std.specs.Prelude.{filter_map}
use Rattle.gq_scopes.specs.Patterns.{find_name}
use Rattle.gq_scopes.proofs.Listing.{nothing_more, one_more}
use Rattle.gq_scopes.proofs.shared.variables_of.Goals as goal

pub loop-name-preserved-in_default : goal.loop-name-preserved-in_default
loop-name-preserved-in_default c =
    nothing_more (find_name c.args.scope.now.nodes) c.args.names.now c.loop-name.name-index c.name-item.result c.loop-name-test.true c.name-item.is c.loop-name.variables _
    (sym c.in_default.is ∙ c.node.ensures) c.loop-name.invariant

pub loop-name-preserved : goal.loop-name-preserved
loop-name-preserved c =
    ap (λ l. l ++ filter_map (find_name c.args.scope.now.nodes) (drop (c.loop-name.name-index + 1) c.args.names.now))
    (c.in_ok-push.ensures.pushed ∙ ap (λ n. c.loop-name.variables ++ n ∷ []) c.in_ok-number.ensures)
    ∙ one_more (find_name c.args.scope.now.nodes) c.args.names.now c.loop-name.name-index c.name-item.result c.loop-name-test.true c.name-item.is c.loop-name.variables _ c.in-Some.at
    (sym c.in-Some.is ∙ c.node.ensures) c.loop-name.invariant
