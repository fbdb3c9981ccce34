use Rattle.gq_pipe.proofs.valued.sift_found.Goals as goal

pub sift_among-requires-clause-among : goal.sift_among-requires-clause-among
sift_among-requires-clause-among c = c.requires.among c.in-Some.index.now c.piece.result c.in-Some.ensures.there c.in-Some.ensures.stands c.piece.ensures
