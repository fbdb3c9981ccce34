use Rattle.std.proofs.Common.{◌≡◌, ◌∙◌, slice_get, sym, ap, arith}
use Rattle.gq_hops.proofs.Walking.{at_walk, count_is, rels_are}
use Rattle.gq_hops.proofs.walker.Walker.rel.Goals as goal

pub rel-requires-clause-open : goal.rel-requires-clause-open
rel-requires-clause-open c = (at_walk c.self.inside c.args.self.now c.self.view_is c.self.invariant c.requires.standing).open_at

pub rel-requires-clause-place : goal.rel-requires-clause-place
rel-requires-clause-place c =
    let many = count_is c.self.inside c.args.self.now c.self.view_is c.self.invariant c.requires.standing in
    omega (arith, many, c.requires.place)

pub returns : goal.returns
returns c = ap (λ l. slice_get l c.args.place) (sym (rels_are c.self.inside c.args.self.now c.self.view_is c.self.invariant c.requires.standing)) ∙ c.rel.ensures
