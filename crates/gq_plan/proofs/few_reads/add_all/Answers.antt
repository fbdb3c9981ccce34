use Rattle.std.proofs.Common.{◌∙◌, ◌∷◌, [], ap, sym}
use Rattle.gq_plan.specs.Reads.{properties}
use Rattle.gq_plan.specs.steps.FewReads.{with_few_reads}
use Rattle.gq_plan.proofs.FewLemmas.{few_next}
use Rattle.gq_plan.proofs.few_reads.add_all.Goals as goal

pub loop-read-preserved : goal.loop-read-preserved
loop-read-preserved c =
    c.add_read.ensures
    ∙ ap (λ rs. with_few_reads rs (properties (c.read-item.result ∷ []))) c.loop-read.invariant
    ∙ sym (few_next c.args.reads.now.items c.args.all.now c.loop-read.read-index c.read-item.result c.loop-read-test.true c.read-item.is)
