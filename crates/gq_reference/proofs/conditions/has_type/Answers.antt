use Rattle.std.proofs.Common.{◌∙◌, sym, arith}
use Rattle.std.proofs.lemmas.Bool.{le-ltb}
use Rattle.gq_reference.proofs.Testing.{no_such_type}
use Rattle.gq_reference.proofs.conditions.has_type.Goals as goal

pub returns-else-table-rel_tables : goal.returns-else-table-rel_tables
returns-else-table-rel_tables c = le-ltb _ _ (omega arith) ∙ sym (no_such_type c.args.catalog.now c.args.kinds.now c.args.table (omega arith) (omega arith))
