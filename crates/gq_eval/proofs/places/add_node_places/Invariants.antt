use Rattle.std.proofs.Common.{◌≡◌, ◌++◌, drop, map}
use Rattle.gq_base.specs.Catalogs.{find_field}
use Rattle.gq_eval.specs.steps.Places.{node_places, place_byte}
use Rattle.gq_eval.proofs.places.add_node_places.Given as goal

abbrev pub invariant-loop-table : goal.invariant-loop-table
invariant-loop-table l = l.places ++ map (λ t. place_byte (find_field t.fields l.name)) (drop l.table l.graph.catalog.nodes) ≡ l.fn.places ++ node_places l.graph.catalog l.name
