use Rattle.std.proofs.Common.{◌∙◌, ap}
use Rattle.gq_optional.specs.Held.{Walking, rows_behind}
use Rattle.gq_optional.proofs.Walking.{all_owed}
use Rattle.gq_optional.proofs.optional_walk.OptionalWalk.begin.Goals as goal

pub invariant_of-self : goal.invariant_of-self
invariant_of-self c = record {
  walk = c.begin.ensures.walk;
  owed = all_owed c.self.inside.walk c.begin.new.self c.args.base.now c.begin.ensures.owed c.begin.ensures.held c.begin.ensures.base;
}

pub returns-clause-owed : goal.returns-clause-owed
returns-clause-owed c =
    all_owed c.self.inside.walk c.begin.new.self c.args.base.now c.begin.ensures.owed c.begin.ensures.held c.begin.ensures.base
    ∙ c.begin.ensures.owed
    ∙ ap (λ (w : Walking). rows_behind w.held c.args.base.now) c.self.view_is
