use Rattle.gq_plan.proofs.known.Known.insert_all.Goals as goal

pub returns : goal.returns
returns c = λ i. record { nodes = c.insert_all.ensures i; rels = c.insert_all-2.ensures i }
