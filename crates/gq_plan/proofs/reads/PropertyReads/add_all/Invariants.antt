use Rattle.std.proofs.Common.{◌≡◌, take}
use Rattle.gq_plan.specs.Reads.{properties, reads, with_reads}
use Rattle.gq_plan.proofs.reads.PropertyReads.add_all.Given as goal

abbrev pub invariant-loop-read : goal.invariant-loop-read
invariant-loop-read l = record {
  items : l.read-items ≡ reads l.expr;
  taken : l.self ≡ with_reads l.fn.self (properties (take l.read-index l.read-items));
}
