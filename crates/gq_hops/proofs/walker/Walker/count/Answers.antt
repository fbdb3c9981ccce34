use Rattle.std.proofs.Common.{◌∙◌, sym, arith}
use Rattle.gq_hops.proofs.Walking.{at_walk, count_is}
use Rattle.gq_hops.proofs.walker.Walker.count.Goals as goal

pub returns-clause-count : goal.returns-clause-count
returns-clause-count c = c.count.ensures ∙ sym (count_is c.self.inside c.args.self.now c.self.view_is c.self.invariant c.requires)

pub returns-clause-few : goal.returns-clause-few
returns-clause-few c =
    let here = at_walk c.self.inside c.args.self.now c.self.view_is c.self.invariant c.requires in
    omega (arith, c.count.ensures, here.open_at.depth, here.open_at.high)
