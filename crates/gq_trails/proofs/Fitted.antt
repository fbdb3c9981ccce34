-- The bound of a node that is one of those at which a walk may end.
use Rattle.std.proofs.Common.{◌≡◌, List, sym}
use Rattle.std.specs.List.{AllByRecursion, Contains}
use Rattle.gq_base.specs.declared.NodeId.{NodeId}
use Rattle.gq_marks.specs.Marking.{Marking, bound_of}
use Rattle.gq_plan.proofs.Each.{each_at}

pub bound_there : (m : Marking) (ns : List NodeId) (n : NodeId) → AllByRecursion (λ k. bound_of m k ≡ 0) ns → Contains ns n → bound_of m n ≡ 0
bound_there m ns n zeros has = each_at (λ k. bound_of m k ≡ 0) ns has.0 n zeros has.1 (sym has.2)
