use Rattle.std.proofs.Common.{◌≡◌}
use Rattle.csv.specs.Records.{fields_of}
use Rattle.gq_tables.proofs.Texts.{Copied}
use Rattle.gq_tables.proofs.header.copy_texts.Given as goal

abbrev pub invariant-loop-text : goal.invariant-loop-text
invariant-loop-text l = (l.text-iterator.row.now ≡ l.fn.header) × Copied (fields_of l.fn.header) l.text-iterator.at l.texts
