use Rattle.std.proofs.Common.{◌≡◌, Some, sym, subst}
use Rattle.std.specs.Prelude.{slice_get}
use Rattle.gq_group.specs.declared.home.Homes.{Homes}
use Rattle.gq_listed.specs.Flat.{IsFlatWay}
use Rattle.gq_listed.proofs.FlatGroups.{at_home}
use Rattle.gq_listed.proofs.holding.is_flat.Goals as goal

pub returns-in-Some : goal.returns-in-Some
returns-in-Some c = λ e.
    subst (IsFlatWay c.args.chunk.now) (sym c.in-Node.is)
    (at_home c.args.chunk.now c.in-Node.range.variable c.in-Some.home.now (subst (λ (h : Homes). slice_get h.nodes c.in-Node.range.variable ≡ Some c.in-Some.home.now) c.homes.ensures (sym c.in-Some.ensures.value)) (c.is_home_flat.ensures e))
