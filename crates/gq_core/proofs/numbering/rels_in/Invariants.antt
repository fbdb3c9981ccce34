use Rattle.std.proofs.Common.{◌≡◌, take, map}
use Rattle.gq_scopes.specs.Renumbering.{placed_in}
use Rattle.gq_scopes.specs.Patterns.{RelPattern}
use Rattle.gq_core.proofs.numbering.rels_in.Given as goal

abbrev pub invariant-loop-rel : goal.invariant-loop-rel
invariant-loop-rel l = l.copies ≡ map (λ (r : RelPattern). record r { left = placed_in l.order r.left; right = placed_in l.order r.right }) (take l.rel-index l.rels)
