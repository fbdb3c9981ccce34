use Rattle.gq_fields.proofs.HeaderSteps.{Reading}
use Rattle.gq_fields.proofs.header.read_fields.Given as goal

abbrev pub invariant-loop-text : goal.invariant-loop-text
invariant-loop-text l = Reading l.texts l.text-index l.fields.items
