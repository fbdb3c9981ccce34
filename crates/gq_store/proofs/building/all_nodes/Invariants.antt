use Rattle.std.proofs.Common.{◌≡◌}
use Rattle.gq_store.proofs.Keeping.{AreNodesBelow, AreRest}
use Rattle.gq_store.proofs.building.all_nodes.Given as goal

abbrev pub invariant-loop-table : goal.invariant-loop-table
invariant-loop-table l =
    AreNodesBelow l.table l.initial.plain l.all.items × (l.plain.catalog ≡ l.initial.plain.catalog)
    × (l.plain.rels ≡ l.initial.plain.rels) × AreRest l.table l.initial.plain.nodes l.plain.nodes
