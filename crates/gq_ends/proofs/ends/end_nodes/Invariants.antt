use Rattle.gq_ends.specs.steps.Adding.{HaveTables}
use Rattle.gq_ends.proofs.ends.end_nodes.Given as goal

abbrev pub invariant-tables : goal.invariant-tables
invariant-tables l = HaveTables l.graph l.part l.table l.ends.items
