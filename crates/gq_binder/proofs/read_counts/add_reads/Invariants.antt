use Rattle.std.proofs.Common.{◌≡◌, drop}
use Rattle.gq_plan.specs.Reads.{with_reads}
use Rattle.gq_bound.specs.steps.Parts.{reads_in}
use Rattle.gq_binder.proofs.read_counts.add_reads.Given as goal

abbrev pub invariant-loop-named : goal.invariant-loop-named
invariant-loop-named l = with_reads l.reads (reads_in (drop l.named-index l.exprs)) ≡ with_reads l.fn.reads (reads_in l.exprs)
