use Rattle.gq_base.specs.Valid.{are_rels}
use Rattle.gq_plain.proofs.ZipSteps.{Passed}
use Rattle.gq_plain.proofs.validity.are_all_rels.Given as goal

abbrev pub invariant-loop-table : goal.invariant-loop-table
invariant-loop-table l = Passed (are_rels l.nodes) l.catalog.rels l.rels l.table
