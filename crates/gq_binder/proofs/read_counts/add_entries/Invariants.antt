use Rattle.std.proofs.Common.{◌≡◌, drop}
use Rattle.gq_bound.specs.Refusals.{entries_read}
use Rattle.gq_plan.specs.Reads.{with_reads}
use Rattle.gq_binder.proofs.read_counts.add_entries.Given as goal

abbrev pub invariant-loop-entry : goal.invariant-loop-entry
invariant-loop-entry l =
    with_reads l.reads (entries_read l.shared l.nodes l.rels (drop l.entry-index l.entries)) ≡ with_reads l.fn.reads (entries_read l.shared l.nodes l.rels l.entries)
