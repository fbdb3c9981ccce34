use Rattle.std.proofs.Common.{◌≡◌, ◌++◌, length, drop}
use Rattle.gq_reply.specs.ReplyTexts.{columns_each}
use Rattle.gq_reply.proofs.plans.column_counts.Given as goal

abbrev pub invariant-loop-typed : goal.invariant-loop-typed
invariant-loop-typed l =
    l.counts ++ columns_each (drop (length l.yielded) l.alternatives) (drop (length l.yielded) l.plans) ≡ columns_each l.alternatives l.plans
