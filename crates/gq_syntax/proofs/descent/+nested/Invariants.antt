use Rattle.gq_syntax.proofs.descent.+nested.Given as goal

abbrev pub decreases-nested : goal.decreases-nested
decreases-nested l = l.room
