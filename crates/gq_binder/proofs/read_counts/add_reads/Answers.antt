use Rattle.std.proofs.Common.{◌∙◌}
use Rattle.gq_plan.specs.Reads.{properties_of}
use Rattle.gq_plan.proofs.ReadLemmas.{reads_more}
use Rattle.gq_plan.specs.declared.NamedExpr.{NamedExpr}
use Rattle.gq_binder.proofs.read_counts.add_reads.Goals as goal

pub loop-named-preserved : goal.loop-named-preserved
loop-named-preserved c =
    reads_more (λ (e : NamedExpr). properties_of e.expr) c.loop-named.reads c.add_all.new.self c.args.exprs.now c.loop-named.named-index c.named-item.result c.loop-named-test.true c.named-item.is c.in_ok-add_all.ensures
    ∙ c.loop-named.invariant
