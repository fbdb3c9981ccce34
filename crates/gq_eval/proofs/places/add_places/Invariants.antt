use Rattle.std.proofs.Common.{◌≡◌, ◌++◌, drop, flat_map}
use Rattle.gq_plan.specs.Reads.{reads}
use Rattle.gq_eval.specs.steps.Places.{read_places}
use Rattle.gq_eval.proofs.places.add_places.Given as goal

abbrev pub invariant-loop-read : goal.invariant-loop-read
invariant-loop-read l = record {
  items : l.read-items ≡ reads l.expr;
  taken : l.places ++ flat_map (read_places l.graph.catalog) (drop l.read-index l.read-items) ≡ l.fn.places ++ flat_map (read_places l.graph.catalog) l.read-items;
}
