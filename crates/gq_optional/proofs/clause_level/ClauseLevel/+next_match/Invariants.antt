use Rattle.std.proofs.Common.{length}
use Rattle.gq_optional.specs.steps.Levels.{matches_left}
use Rattle.gq_optional.proofs.clause_level.ClauseLevel.+next_match.Given as goal

abbrev pub decreases-next_match : goal.decreases-next_match
decreases-next_match l = length (matches_left l.self.now)
