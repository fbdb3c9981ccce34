use Rattle.std.proofs.Common.{◌≡◌, take, []}
use Rattle.gq_plan.specs.Soundness.{kinds_for}
use Rattle.gq_alternatives.proofs.kinds.node_kinds.Given as goal

abbrev pub invariant-loop-table : goal.invariant-loop-table
invariant-loop-table l = l.kinds ≡ (kinds_for l.catalog (take l.table-index l.tables) []).nodes
