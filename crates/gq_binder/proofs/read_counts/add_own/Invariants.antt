use Rattle.std.proofs.Common.{◌≡◌, drop, map}
use Rattle.gq_plan.specs.Reads.{property, with_reads}
use Rattle.gq_binder.proofs.read_counts.add_own.Given as goal

abbrev pub invariant-loop-entry : goal.invariant-loop-entry
invariant-loop-entry l =
    with_reads l.reads (map (λ e. property e.variable e.entry.key) (drop l.entry-index l.entries)) ≡ with_reads l.fn.reads (map (λ e. property e.variable e.entry.key) l.entries)
