use Rattle.std.proofs.Common.{◌≡◌, false, length}
use Rattle.gq_kept.specs.Tables.{StandsForSome, is_full_table}
use Rattle.gq_kept.specs.steps.Choosing.{Came, choices_left}
use Rattle.gq_listed.specs.Finding.{Extends}
use Rattle.gq_listed.specs.Listed.{Finding, table_in}
use Rattle.gq_listed.proofs.listed.Listed.push_choices.Given as goal

abbrev pub invariant-choices : goal.invariant-choices
invariant-choices t l = record {
  room : is_full_table (table_in l.asked l.self) ≡ false;
  some : StandsForSome (table_in l.asked l.self);
  more : Extends l.initial.self.cells.sources l.self.cells.sources;
  finders : Finding l.asked l.self.cells.sources l.finders;
  came : Came (t.A.Admits.admitted l.admits) l.asked.graph.now l.typed l.chunk (table_in l.asked l.initial.self) (table_in l.asked l.self) l.found l.choice;
}

abbrev pub decreases-choices : goal.decreases-choices
decreases-choices t l = length (choices_left l.chunk.groups.now l.found l.choice)
