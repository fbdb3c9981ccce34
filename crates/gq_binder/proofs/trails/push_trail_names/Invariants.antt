use Rattle.std.proofs.Common.{◌≡◌, ◌++◌, drop}
use Rattle.gq_bound.specs.Columns.{trail_names, trail_names_from}
use Rattle.gq_binder.proofs.trails.push_trail_names.Given as goal

abbrev pub invariant-loop-rel : goal.invariant-loop-rel
invariant-loop-rel l = l.names ++ trail_names_from l.pattern.rel_names l.number (drop l.rel-index l.pattern.rels) ≡ l.fn.names ++ trail_names l.pattern
