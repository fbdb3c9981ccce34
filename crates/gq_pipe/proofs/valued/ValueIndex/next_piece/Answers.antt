use Rattle.gq_pipe.proofs.valued.ValueIndex.next_piece.Goals as goal

pub returns : goal.returns
returns c = record { later = c.piece_from.ensures.later; value = c.value.result; asked = c.value.ensures; by = c.piece_from.ensures }
