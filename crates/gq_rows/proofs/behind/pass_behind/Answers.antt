use Rattle.gq_rows.proofs.behind.pass_behind.Goals as goal

pub returns-then-not-is_behind-clause-came : goal.returns-then-not-is_behind-clause-came
returns-then-not-is_behind-clause-came c = λ admitted held came. came

pub returns-clause-came : goal.returns-clause-came
returns-clause-came c = c.pass_more.ensures.came

pub returns-clause-left : goal.returns-clause-left
returns-clause-left c = c.pass_more.ensures.left
