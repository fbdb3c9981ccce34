use Rattle.gq_pipe.proofs.valued.ValueIndex.piece.Goals as goal

pub returns : goal.returns
returns c = record { value = c.value.result; asked = c.value.ensures; by = c.places_of.ensures }
