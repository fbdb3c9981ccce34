use Rattle.std.proofs.Common.{◌≡◌, take, []}
use Rattle.gq_plan.specs.Soundness.{kinds_for}
use Rattle.gq_alternatives.proofs.kinds.rel_kinds.Given as goal

abbrev pub invariant-loop-rel : goal.invariant-loop-rel
invariant-loop-rel l = l.kinds ≡ (kinds_for l.catalog [] (take l.rel-index l.rels)).rels
