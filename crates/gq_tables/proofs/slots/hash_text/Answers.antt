use Rattle.std.proofs.Common.{rules}
use Rattle.gq_tables.specs.steps.Slots.{hash_text}
use Rattle.gq_tables.proofs.slots.hash_text.Goals as goal

pub returns : goal.returns
unfolding hash_text
returns c = search rules
