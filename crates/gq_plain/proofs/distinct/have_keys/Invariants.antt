use Rattle.std.specs.BTreeSet.{contains}
use Rattle.gq_base.specs.Values.{order_vals, val}
use Rattle.gq_plain.proofs.DistinctSteps.{Keyed}
use Rattle.gq_plain.proofs.distinct.have_keys.Given as goal

abbrev pub invariant-loop-number : goal.invariant-loop-number
invariant-loop-number l = Keyed l.rows l.number (contains (λ x y. order_vals (val x) (val y)) l.keys)
