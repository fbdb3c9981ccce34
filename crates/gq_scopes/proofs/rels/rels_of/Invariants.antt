use Rattle.std.proofs.Common.{◌≡◌, ◌++◌}
use Rattle.gq_scopes.proofs.rels.rels_of.Given as goal

abbrev pub invariant-loop-rel : goal.invariant-loop-rel
invariant-loop-rel l = l.rels ++ l.rel-iterator.rest.items ≡ l.fn.list
