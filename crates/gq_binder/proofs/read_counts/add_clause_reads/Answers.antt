use Rattle.std.proofs.Common.{◌∙◌, ap}
use Rattle.gq_plan.proofs.ReadLemmas.{reads_more}
use Rattle.gq_plan.specs.Reads.{with_reads}
use Rattle.gq_bound.specs.declared.optionals.ClauseParts.{ClauseParts}
use Rattle.gq_bound.specs.steps.Parts.{reads_in}
use Rattle.gq_binder.proofs.read_counts.add_clause_reads.Goals as goal

pub loop-clause-preserved : goal.loop-clause-preserved
loop-clause-preserved c =
    reads_more (λ (k : ClauseParts). reads_in k.conjuncts) c.loop-clause.reads c.add_reads.new.reads c.args.clauses.now c.loop-clause.clause-index c.clause-item.result c.loop-clause-test.true c.clause-item.is
    (c.in_ok-add_reads.ensures ∙ ap (λ es. with_reads c.loop-clause.reads (reads_in es)) c.as_slice.ensures)
    ∙ c.loop-clause.invariant
