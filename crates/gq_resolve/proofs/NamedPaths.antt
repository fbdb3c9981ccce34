-- The paths that conjuncts test begin and end between characters where their condition does; no check refuses a name in them where it
-- refuses none in the condition; and then the scope has a node variable for each name of their nodes.
use Rattle.std.proofs.Common.{◌≡◌, ◌∙◌, ℕ, All, Bool, true, false, not, ◌||◌, List, [], ◌∷◌, ◌++◌, map, Option, Some, None, refl, sym, ap, subst}
use Rattle.std.specs.List.{AllByRecursion, list_any}
use Rattle.std.specs.Option.{option_or}
use Rattle.std.specs.Prelude.{if◌then◌else◌}
use Rattle.std.proofs.lemmas.List.Elements.{All-same, All-tail, recursion_from_All}
use Rattle.gq_base.proofs.OptionLaws.{or_first, or_second}
use Rattle.gq_ast.specs.Sources.{IsWhole}
use Rattle.gq_ast.specs.declared.Span.{Span}
use Rattle.gq_plan.proofs.Each.{each_append}
use Rattle.gq_scopes.specs.PathPatterns.{shared_names, with_name, with_names}
use Rattle.gq_scopes.specs.Patterns.{Name, Pattern, find_name, is_called, no_pattern}
use Rattle.gq_scopes.specs.Scopes.{Scope, is_there}
use Rattle.gq_ast.proofs.SpanLemmas.{and_whole, exists_whole, paren_whole}
use Rattle.gq_ast.specs.Spans.{IsWholeTree, operand_spans, spans_of}
use Rattle.gq_ast.specs.steps.Spans.{IsWholePath}
use Rattle.gq_ast.specs.declared.Ast.{Ast, Ast-F, out-Ast, roll-Ast, out-roll-Ast, fold-roll-Ast, fold_out-Ast}
use Rattle.gq_ast.specs.declared.expression.Ast.TheShapes.{former-Ast-node as parts}
use Rattle.gq_ast.specs.declared.AstNode.{AstNode}
use Rattle.gq_ast.specs.declared.AstNode.TheVariants as ast
use Rattle.gq_ast.specs.declared.Hop.{Hop}
use Rattle.gq_ast.specs.declared.Path.{Path}
use Rattle.gq_resolve.proofs.TestFacts.{GoesDown}
use Rattle.gq_resolve.proofs.UseLemmas.{first_name_append}
use Rattle.gq_resolve.specs.Uses.{Use, all_uses, conflict_in, conflict_in_hops, exists, first_name, refused_unless, unknown_in, unknown_in_hops, unless_rel, unless_variable, uses, uses_step}

-- ---- where they stand

at : (x : Ast-F Ast) → {n : AstNode Ast} → x.node ≡ n → (out-Ast (roll-Ast x)).node ≡ n
at x is = ap (λ a. a.node) (out-roll-Ast x) ∙ is

-- what stands behind NOT stands in the text where the whole does
not_whole : (text : List ℕ) (t x : Ast) → (out-Ast t).node ≡ ast.Not x → IsWholeTree text t → IsWholeTree text x
unfolding spans_of
not_whole text t x is h =
    let whole = All-same (IsWhole text) _ _ (sym (fold_out-Ast (List Span) (λ a. a.span ∷ operand_spans a.node) t)) h.spans in
    record { spans = subst (λ n. All (IsWhole text) (operand_spans (parts.map Ast (List Span) spans_of n))) is (All-tail (IsWhole text) _ _ whole) }

pub whole_paths : (text : List ℕ) → GoesDown (IsWholeTree text) (IsWholePath text)
whole_paths text = record {
  ands = λ x ts is h. recursion_from_All (IsWholeTree text) ts (and_whole text (roll-Ast x) ts (at x is) h);
  parens = λ x t is h. paren_whole text (roll-Ast x) t (at x is) h;
  nots = λ x t is h. not_whole text (roll-Ast x) t (at x is) h;
  tests = λ x path is h. exists_whole text (roll-Ast x) path (at x is) h;
}

-- ---- what checks say of them

module _ (check : Use → Option Name) where
  abbrev pub Passes : Ast → Type 0
  Passes t = first_name check (uses t) ≡ None

  abbrev pub PathPasses : Path → Type 0
  PathPasses path = check (exists path) ≡ None

  uses_roll : (x : Ast-F Ast) → uses (roll-Ast x) ≡ uses_step (parts.map Ast (List Use) uses x.node)
  unfolding uses
  uses_roll = fold-roll-Ast (List Use) (λ a. uses_step a.node)

  opened : (x : Ast-F Ast) (n : AstNode Ast) → x.node ≡ n → Passes (roll-Ast x) → first_name check (uses_step (parts.map Ast (List Use) uses n)) ≡ None
  opened x n is h = sym (ap (first_name check) (uses_roll x ∙ ap (λ m. uses_step (parts.map Ast (List Use) uses m)) is)) ∙ h

  each_passes : (ts : List Ast) → first_name check (all_uses (map uses ts)) ≡ None → AllByRecursion Passes ts
  each_passes [] h = tt
  each_passes (t ∷ ts) h =
      let both = sym (first_name_append check (uses t) (all_uses (map uses ts))) ∙ h in
      (or_first (first_name check (uses t)) (first_name check (all_uses (map uses ts))) both, each_passes ts (or_second (first_name check (uses t)) (first_name check (all_uses (map uses ts))) both))

  pub passing_paths : GoesDown Passes PathPasses
  passing_paths = record {
    ands = λ x ts is h. each_passes ts (opened x (ast.And ts) is h);
    parens = λ x t is h. opened x (ast.Paren t) is h;
    nots = λ x t is h. opened x (ast.Not t) is h;
    tests = λ x path is h. or_first (check (exists path)) None (opened x (ast.Exists path) is h);
  }

-- ---- the names of their nodes

module _ (s : Scope) where
  abbrev pub IsNodeName : Name → Type 0
  IsNodeName n = is_there (find_name s.nodes n) ≡ true

  node_of : (a b : Bool) (n : Name) → refused_unless (a || b) n ≡ None → refused_unless (not b) n ≡ None → a ≡ true
  node_of true b n h k = refl
  node_of false true n h k = cc k
  node_of false false n h k = cc h

  one_named : (o : Option Name) (p : Pattern) → unless_variable s o ≡ None → unless_rel s o ≡ None → AllByRecursion IsNodeName p.node_names → AllByRecursion IsNodeName (with_name o p).node_names
  one_named None p h k all = all
  one_named (Some n) p h k all = go (list_any (is_called n) p.names)
    where
      more : Pattern → Pattern
      more q = record q { names = q.names ++ Some n ∷ []; node_names = q.node_names ++ n ∷ [] }

      go : (b : Bool) → AllByRecursion IsNodeName (if b then p else more p).node_names
      go true = all
      go false = each_append IsNodeName p.node_names (n ∷ []) all (node_of (is_there (find_name s.nodes n)) (is_there (find_name s.rels n)) n h k, tt)

  hops_named : (hs : List Hop) (p : Pattern) → unknown_in_hops s hs ≡ None → conflict_in_hops s hs ≡ None → AllByRecursion IsNodeName p.node_names → AllByRecursion IsNodeName (with_names hs p).node_names
  hops_named [] p h k all = all
  hops_named (x ∷ hs) p h k all =
      let unknown = or_second (unless_variable s x.rel.name) (option_or (unless_variable s x.node.name) (unknown_in_hops s hs)) h in
      let other = or_second _ (option_or (unless_rel s x.node.name) (conflict_in_hops s hs)) k in
      hops_named hs (with_name x.node.name p) (or_second (unless_variable s x.node.name) (unknown_in_hops s hs) unknown) (or_second (unless_rel s x.node.name) (conflict_in_hops s hs) other)
      (one_named x.node.name p (or_first (unless_variable s x.node.name) (unknown_in_hops s hs) unknown) (or_first (unless_rel s x.node.name) (conflict_in_hops s hs) other) all)

  -- each name of the path's nodes is that of a node variable
  pub names_known : (path : Path) → unknown_in s path ≡ None → conflict_in s path ≡ None → AllByRecursion IsNodeName (shared_names path)
  names_known path h k =
      hops_named path.hops (with_name path.first.name no_pattern)
      (or_second (unless_variable s path.first.name) (unknown_in_hops s path.hops) h) (or_second (unless_rel s path.first.name) (conflict_in_hops s path.hops) k)
      (one_named path.first.name no_pattern (or_first (unless_variable s path.first.name) (unknown_in_hops s path.hops) h) (or_first (unless_rel s path.first.name) (conflict_in_hops s path.hops) k) tt)
