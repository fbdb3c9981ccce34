use Rattle.gq_sift.proofs.cuts.scan_cut.Goals as goal

pub returns-then-are_all : goal.returns-then-are_all
returns-then-are_all c = c.are_all.ensures c.if-are_all.true

pub returns-then-are_chained : goal.returns-then-are_chained
returns-then-are_chained c = c.are_chained.ensures c.if-are_chained.true
