use Rattle.std.proofs.Common.{◌∙◌}
use Rattle.gq_optional.proofs.Walking.{none_owed}
use Rattle.gq_optional.proofs.optional_walk.OptionalWalk.new.Goals as goal

pub invariant_of-result : goal.invariant_of-result
invariant_of-result c = record { walk = c.in_ok-walk.ensures.walk; owed = none_owed c.in_ok-walk.walk c.in_ok-walk.ensures.owed }

pub returns-clause-owed : goal.returns-clause-owed
returns-clause-owed c = none_owed c.in_ok-walk.walk c.in_ok-walk.ensures.owed ∙ c.in_ok-walk.ensures.owed
