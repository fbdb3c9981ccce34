use Rattle.gq_plan.proofs.follow.Follow.extends.Goals as goal

pub returns-clause-bound : goal.returns-clause-bound
returns-clause-bound c = λ e i. record { nodes = c.insert-2.ensures i; rels = c.insert.ensures i }
