use Rattle.std.proofs.Common.{◌≡◌, take}
use Rattle.gq_plan.specs.Reads.{properties}
use Rattle.gq_plan.specs.steps.FewReads.{with_few_reads}
use Rattle.gq_plan.proofs.few_reads.add_all.Given as goal

abbrev pub invariant-loop-read : goal.invariant-loop-read
invariant-loop-read l = l.reads.items ≡ with_few_reads l.fn.reads.items (properties (take l.read-index l.all))
