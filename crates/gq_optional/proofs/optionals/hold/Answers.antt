use Rattle.std.proofs.Common.{◌≡◌, ◌∙◌, ap, length, map, subst, sym}
use Rattle.std.specs.Prelude.{All}
use Rattle.gq_plan.specs.Soundness.{has_number}
use Rattle.gq_plan.specs.declared.typed.Typed.{Typed}
use Rattle.gq_optional.specs.steps.Looked.{places_of}
use Rattle.gq_optional.proofs.Clauses.{keys_low}
use Rattle.gq_optional.proofs.optionals.hold.Goals as goal

pub list_each-requires-clause-keys : goal.list_each-requires-clause-keys
list_each-requires-clause-keys c =
    let part = c.args.part.now in
    let sized = subst (All (λ (y : Typed). length y.nodes ≡ length part.nodes)) (sym c.as_slice-alternatives.ensures) c.requires.part.nodes in
    keys_low c.args.known.now part.nodes c.as_slice-alternatives.result.now c.in_ok-shared.shared c.as_slice-3.result.now (c.in_ok-shared.ensures ∙ ap (map (has_number c.args.known.now)) c.as_slice-nodes.ensures)
    (c.as_slice-3.ensures.value ∙ c.in_ok-keys.ensures ∙ ap (places_of 0) c.as_slice.ensures) sized
