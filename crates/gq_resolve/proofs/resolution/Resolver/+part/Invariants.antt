use Rattle.std.proofs.Common.{◌≡◌, drop, map, Option}
use Rattle.gq_base.proofs.ListLaws.{prepend}
use Rattle.gq_expr.specs.declared.Expr.{Expr}
use Rattle.gq_ast.specs.declared.Ast.{Ast}
use Rattle.gq_resolve.specs.Resolving.{resolved, calls_of, all_some, bound_term, bound_tester}
use Rattle.gq_resolve.specs.steps.Trees.{term_with, tester_with}
use Rattle.gq_resolve.proofs.resolution.Resolver.+part.Given as goal

abbrev pub invariant-all-loop-tree : goal.invariant-all-loop-tree
invariant-all-loop-tree l =
    let go : Ast → Option Expr = resolved (calls_of l.self.calls) l.self.scope.now in
    prepend l.all (all_some (map go (drop l.tree-index l.trees))) ≡ all_some (map go l.trees)

abbrev pub invariant-compares-loop-term : goal.invariant-compares-loop-term
invariant-compares-loop-term l =
    let go : Ast → Option Expr = resolved (calls_of l.self.calls) l.self.scope.now in
    prepend l.all (all_some (map bound_term (map (term_with go) (drop l.term-index l.terms)))) ≡ all_some (map bound_term (map (term_with go) l.terms))

abbrev pub invariant-ariths-loop-term : goal.invariant-ariths-loop-term
invariant-ariths-loop-term l =
    let go : Ast → Option Expr = resolved (calls_of l.self.calls) l.self.scope.now in
    prepend l.all (all_some (map bound_term (map (term_with go) (drop l.term-index l.terms)))) ≡ all_some (map bound_term (map (term_with go) l.terms))

abbrev pub invariant-testers-loop-tester : goal.invariant-testers-loop-tester
invariant-testers-loop-tester l =
    let go : Ast → Option Expr = resolved (calls_of l.self.calls) l.self.scope.now in
    prepend l.all (all_some (map bound_tester (map (tester_with go) (drop l.tester-index l.testers)))) ≡ all_some (map bound_tester (map (tester_with go) l.testers))
