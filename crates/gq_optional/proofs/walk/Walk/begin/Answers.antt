use Rattle.std.proofs.Common.{◌∙◌, ap}
use Rattle.gq_outer.specs.Clauses.{unmarked}
use Rattle.gq_outer.specs.Rows.{Wide, read}
use Rattle.gq_optional.specs.Held.{rows_behind}
use Rattle.gq_optional.specs.steps.Levels.{clauses_of}
use Rattle.gq_optional.specs.steps.Walks.{held_by, known_by}
use Rattle.gq_optional.proofs.Walked.{all_after}
use Rattle.gq_optional.proofs.walk.Walk.begin.Goals as goal

pub returns-clause-owed : goal.returns-clause-owed
returns-clause-owed c =
    let w = c.args.self.now in
    let g = w.graph.now in
    all_after g (known_by w) (clauses_of w.levels.items) c.requires.walk.shared (unmarked (read c.copy_from.new.self))
    ∙ ap (λ (b : Wide). rows_behind (held_by w) b) c.copy_from.ensures
