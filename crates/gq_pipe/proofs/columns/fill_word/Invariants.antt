use Rattle.gq_pipe.proofs.Words.{AreFilled}
use Rattle.gq_pipe.proofs.columns.fill_word.Given as goal

abbrev pub invariant-loop-rest : goal.invariant-loop-rest
invariant-loop-rest l = AreFilled l.origin l.slot l.index l.word l.rest l.initial.pool l.pool

abbrev pub decreases-loop-rest : goal.decreases-loop-rest
decreases-loop-rest l = l.rest
