use Rattle.std.proofs.Common.{◌≡◌, drop}
use Rattle.gq_plan.specs.Reads.{with_reads}
use Rattle.gq_bound.specs.steps.Parts.{clause_reads}
use Rattle.gq_binder.proofs.read_counts.add_clause_reads.Given as goal

abbrev pub invariant-loop-clause : goal.invariant-loop-clause
invariant-loop-clause l = with_reads l.reads (clause_reads (drop l.clause-index l.clauses)) ≡ with_reads l.fn.reads (clause_reads l.clauses)
