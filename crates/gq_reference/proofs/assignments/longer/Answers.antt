use Rattle.std.proofs.Common.{◌∙◌, ◌∷◌, ◌++◌, ap, arith, map}
use Rattle.gq_base.proofs.ListFacts.{flat_map_next}
use Rattle.gq_reference.proofs.assignments.longer.Goals as goal

pub loop-item-preserved : goal.loop-item-preserved
loop-item-preserved g c =
    c.in_ok-push_all_with.ensures ∙ ap (λ l. l ++ map (λ t. c.item-item.result ∷ t) c.args.tuples.now) c.loop-item.invariant
    ∙ flat_map_next (λ x. map (λ t. x ∷ t) c.args.tuples.now) c.args.items.now c.loop-item.item-index c.item-item.result c.item-item.result (omega arith) c.item-item.is
