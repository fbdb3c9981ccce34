use Rattle.gq_base.specs.Valid.{are_nodes}
use Rattle.gq_plain.proofs.ZipSteps.{Passed}
use Rattle.gq_plain.proofs.validity.are_all_nodes.Given as goal

abbrev pub invariant-loop-table : goal.invariant-loop-table
invariant-loop-table l = Passed are_nodes l.catalog.nodes l.nodes l.table
