use Rattle.std.proofs.Common.{◌≡◌, length}
use Rattle.gq_base.specs.Plain.{Graph}
use Rattle.gq_optional.specs.steps.Asking.{Asks}
use Rattle.gq_optional.specs.steps.Levels.{HasRows, IsLevel, IsSameClause, left_of, pending}
use Rattle.gq_outer.specs.Rows.{read}
use Rattle.gq_optional.proofs.clause_level.ClauseLevel.go_on.Given as goal

abbrev pub invariant-matches : goal.invariant-matches
invariant-matches l = record {
  level : IsLevel l.self;
  rows : HasRows l.self;
  same : IsSameClause l.initial.self l.self;
  left : (g : Graph) → Asks g l.initial.self.clause.now → left_of g (read l.before) l.initial.self ≡ left_of g (read l.before) l.self;
}

abbrev pub decreases-matches : goal.decreases-matches
decreases-matches l = length (pending (read l.before) l.self)
