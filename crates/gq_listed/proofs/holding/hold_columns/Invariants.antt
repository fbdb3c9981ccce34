use Rattle.std.proofs.Common.{List, take}
use Rattle.gq_cells.specs.declared.source.Source.{Source}
use Rattle.gq_eval.specs.Asked.{Asked}
use Rattle.gq_listed.specs.Leads.{AreLed}
use Rattle.gq_listed.specs.Listed.{AreFinders}
use Rattle.gq_listed.proofs.holding.hold_columns.Given as goal

abbrev pub invariant-finders : goal.invariant-finders
invariant-finders l = record {
  finders : (ss : List Source) (asks : List Asked) → AreFinders ss asks l.finders → AreFinders ss (take l.finder-index asks) l.held.items;
  led : AreLed l.graph l.typed l.chunk l.held.items;
}
