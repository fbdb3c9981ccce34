use Rattle.std.proofs.Common.{sym, ◌∙◌}
use Rattle.gq_sift.proofs.cuts.is_condition.Goals as goal

pub returns-in-Some : goal.returns-in-Some
returns-in-Some c = λ on. (c.in-Some._test, sym c.test_at.ensures ∙ c.in-Some.is)
