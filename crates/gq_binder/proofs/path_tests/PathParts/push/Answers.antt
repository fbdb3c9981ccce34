use Rattle.std.proofs.Common.{All, IfSome, sym, subst}
use Rattle.gq_bound.proofs.PathCounts.{some_then}
use Rattle.gq_bound.proofs.Patterns.{IsWholeMap, path_entries_whole}
use Rattle.gq_scopes.specs.Patterns.{Pattern}
use Rattle.gq_binder.proofs.path_tests.PathParts.push.Goals as goal

pub push_path-requires-clause-entries : goal.push_path-requires-clause-entries
push_path-requires-clause-entries c =
    subst (λ (p : Pattern). IfSome c.args.test.now.name (λ _. All (IsWholeMap c.args.text.now) p.entries)) (sym c.pattern.ensures)
    (some_then c.args.test.now.name (path_entries_whole c.args.text.now c.args.test.now.test.path) c.requires)
