use Rattle.std.proofs.Common.{◌∙◌, ◌++◌, ap, append-nil, sym}
use Rattle.gq_plan.proofs.ReadEquations.{reads_Literal}
use Rattle.gq_plan.specs.Reads.{reads}
use Rattle.gq_plan.proofs.reading.+add_reads.Goals as goal

pub add_reads-returns-in-Literal : goal.add_reads-returns-in-Literal
add_reads-returns-in-Literal t c =
    sym (append-nil c.args.reads.now) ∙ ap (λ rs. c.args.reads.now ++ rs) (sym (ap reads c.in-Literal.is ∙ reads_Literal c.in-Literal.field-0))
