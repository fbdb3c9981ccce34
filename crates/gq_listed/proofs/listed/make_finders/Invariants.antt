use Rattle.std.proofs.Common.{◌≡◌, take}
use Rattle.gq_listed.specs.Finding.{IsNullAt}
use Rattle.gq_listed.specs.Listed.{AreFinders}
use Rattle.gq_eval.specs.Asked.{asked_of}
use Rattle.gq_listed.proofs.listed.make_finders.Given as goal

abbrev pub invariant-columns : goal.invariant-columns
invariant-columns l = record {
  found : AreFinders l.cells.sources (asked_of l.graph (take l.column-index l.columns)) l.finders.items;
  null : IsNullAt l.cells.sources l.null;
  values : l.cells.values ≡ l.initial.cells.values;
}
