use Rattle.std.specs.BTreeSet.{contains}
use Rattle.std.specs.Cmp.Lexicographic.{slice_cmp}
use Rattle.std.specs.Ordering.{nat_cmp}
use Rattle.gq_plain.proofs.DistinctSteps.{Named}
use Rattle.gq_plain.proofs.distinct.have_distinct_names.Given as goal

abbrev pub invariant-loop-field : goal.invariant-loop-field
invariant-loop-field l = Named l.fields l.field-index (contains (λ x y. slice_cmp nat_cmp x.now y.now) l.names)
