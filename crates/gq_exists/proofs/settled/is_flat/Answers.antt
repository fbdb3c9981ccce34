use Rattle.std.proofs.Common.{◌≡◌, ◌∙◌, Some, List, ap, length, refl, slice_get, subst, sym}
use Rattle.std.specs.Prelude.{is_some}
use Rattle.std.proofs.lemmas.Option.{slice_get_read}
use Rattle.gq_group.specs.declared.group.Group.{Group}
use Rattle.gq_exists.proofs.Settling.{flat}
use Rattle.gq_exists.proofs.settled.is_flat.Goals as goal

pub returns-in-Some : goal.returns-in-Some
returns-in-Some c some =
    let gs = c.groups.result.now in
    let g = c.in-Some.group.now in
    flat c.args.chunk.now c.args.group g
    (subst (λ (l : List Group). slice_get l c.args.group ≡ Some g) c.groups.ensures (slice_get_read gs (length gs) c.args.group g refl c.in-Some.ensures.lookup.3.0 c.in-Some.ensures.lookup.1))
    (sym (ap is_some c.current.ensures) ∙ sym c.is_some.ensures ∙ some)
