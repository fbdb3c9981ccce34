-- The values of the entries of a query's maps stand in its text, in the patterns of its core too.
use Rattle.std.proofs.Common.{ℕ, suc, Option, Some, None, List, [], ◌∷◌, ◌++◌, length}
use Rattle.std.specs.Prelude.{All}
use Rattle.std.specs.List.{AllByRecursion}
use Rattle.std.proofs.lemmas.List.Elements.{All-append, All-map, All-nil, All-weaker, recursion_from_All}
use Rattle.gq_alternatives.proofs.ShapesOfPatterns.{node_cases}
use Rattle.gq_plan.specs.declared.PathPart.{PathPart}
use Rattle.gq_plan.specs.declared.variable.Variable.{Variable}
use Rattle.gq_plan.specs.declared.variable.Variable.TheVariants.{Node as node, Rel as rel}
use Rattle.gq_scopes.specs.Patterns.{MapEntry, Name, Pattern, called, entries_of, variable_of, with_node, with_part, with_rel}
use Rattle.gq_ast.specs.declared.Clause.{Clause}
use Rattle.gq_ast.specs.declared.Entry.{Entry}
use Rattle.gq_ast.specs.declared.Hop.{Hop}
use Rattle.gq_ast.specs.declared.NodePart.{NodePart}
use Rattle.gq_ast.specs.declared.Path.{Path}
use Rattle.gq_ast.specs.declared.Range.{Range}
use Rattle.gq_ast.specs.Spans.{IsWholeEntry}
use Rattle.gq_ast.specs.steps.Spans.{IsWholeClause, IsWholeHop, IsWholePath}
use Rattle.gq_law_cuts.specs.Cuts.{alone_in, core_first, cored_of, in_pattern, piece_behind, trailed_of, variable_in, with_clauses, with_hop, with_hops, with_path, with_paths}
use Rattle.gq_law_reaches.specs.Reaches.{Trailed}

module _ (text : List ℕ) where
  abbrev IsWholeMap : MapEntry → Type 0
  IsWholeMap e = IsWholeEntry text e.entry

  abbrev Whole : Trailed → Type 0
  Whole q = All IsWholeMap q.pattern.entries

  more : (v : Variable) (name : Name) (before : List MapEntry) (es : List Entry) → All (IsWholeEntry text) es → All IsWholeMap before → All IsWholeMap (before ++ entries_of v name es)
  more v name before es h all = All-append IsWholeMap before (entries_of v name es) all (All-map IsWholeMap (λ e. record { variable = v; called = name; entry = e }) es h)

  node_kept : (part : NodePart) (p : Pattern) → All (IsWholeEntry text) part.map → All IsWholeMap p.entries → All IsWholeMap (with_node part p).entries
  node_kept part p n h =
      node_cases (λ r. All IsWholeMap r.entries) part p
      (λ v low is. more (node v) (called p.unnamed part.name) p.entries part.map n h)
      (λ is. more (node (length p.names)) (called p.unnamed part.name) p.entries part.map n h)

  hop_kept : (range : Option Range) (clause : ℕ) (piece : PathPart) (left right : ℕ) (hop : Hop) (q : Trailed)
      → All (IsWholeEntry text) hop.rel.map → All (IsWholeEntry text) hop.node.map → Whole q → Whole (with_hop range clause piece left right hop q)
  hop_kept None clause piece left right hop q r n h =
      node_kept hop.node (with_rel clause left right hop.rel q.pattern) n
      (more (rel (length q.pattern.rels)) (called q.pattern.unnamed hop.rel.name) q.pattern.entries hop.rel.map r h)
  hop_kept (Some range) clause piece left right hop q r n h =
      node_kept hop.node (record (with_part piece q.pattern) { unnamed = suc q.pattern.unnamed }) n h

  abbrev HopMaps : Hop → Type 0
  HopMaps hop = All (IsWholeEntry text) hop.rel.map × All (IsWholeEntry text) hop.node.map

  abbrev PathMaps : Path → Type 0
  PathMaps path = All (IsWholeEntry text) path.first.map × AllByRecursion HopMaps path.hops

  hops_kept : (clause : ℕ) (piece : PathPart) (left : ℕ) (hops : List Hop) (q : Trailed) → AllByRecursion HopMaps hops → Whole q → Whole (with_hops clause piece left hops q)
  hops_kept clause piece left [] q all h = h
  hops_kept clause piece left (hop ∷ hops) q all h =
      hops_kept clause (piece_behind hop.rel.trail piece (length q.pattern.rels) (variable_of q.pattern hop.node)) (variable_of q.pattern hop.node) hops
      (with_hop hop.rel.trail clause piece left (variable_of q.pattern hop.node) hop q) all.1
      (hop_kept hop.rel.trail clause piece left (variable_of q.pattern hop.node) hop q all.0.0 all.0.1 h)

  path_kept : (clause : ℕ) (path : Path) (q : Trailed) → PathMaps path → Whole q → Whole (with_path clause path q)
  path_kept clause path q maps h =
      hops_kept clause (record { first = variable_of q.pattern path.first; rels = [] }) (variable_of q.pattern path.first) path.hops
      (record (in_pattern (with_node path.first) q) { alone = q.alone ++ alone_in path.hops (variable_of q.pattern path.first) }) maps.1
      (node_kept path.first q.pattern maps.0 h)

  paths_kept : (clause : ℕ) (paths : List Path) (q : Trailed) → AllByRecursion PathMaps paths → Whole q → Whole (with_paths clause paths q)
  paths_kept clause [] q all h = h
  paths_kept clause (path ∷ paths) q all h = paths_kept clause paths (with_path clause path q) all.1 (path_kept clause path q all.0 h)

  abbrev ClauseMaps : Clause → Type 0
  ClauseMaps c = AllByRecursion PathMaps c.paths

  clauses_kept : (number : ℕ) (cs : List Clause) (q : Trailed) → AllByRecursion ClauseMaps cs → Whole q → Whole (with_clauses number cs q)
  clauses_kept number [] q all h = h
  clauses_kept number (c ∷ cs) q all h = clauses_kept (suc number) cs (with_paths number c.paths q) all.1 (paths_kept number c.paths q all.0 h)

  hops_whole : (hs : List Hop) → All (IsWholeHop text) hs → AllByRecursion HopMaps hs
  hops_whole hs h = recursion_from_All HopMaps hs (All-weaker (IsWholeHop text) HopMaps (λ hop w. (w.rel, w.node)) hs h)

  paths_whole : (ps : List Path) → All (IsWholePath text) ps → AllByRecursion PathMaps ps
  paths_whole ps h = recursion_from_All PathMaps ps (All-weaker (IsWholePath text) PathMaps (λ path w. (w.first, hops_whole path.hops w.hops)) ps h)

  clauses_whole : (cs : List Clause) → All (IsWholeClause text) cs → AllByRecursion ClauseMaps cs
  clauses_whole cs h = recursion_from_All ClauseMaps cs (All-weaker (IsWholeClause text) ClauseMaps (λ c w. paths_whole c.paths w.paths) cs h)

  trailed_whole : (cs : List Clause) → All (IsWholeClause text) cs → Whole (trailed_of cs)
  unfolding trailed_of
  trailed_whole cs h = clauses_kept 0 cs _ (clauses_whole cs h) (All-nil IsWholeMap)

  pub cored_whole : (cs : List Clause) → All (IsWholeClause text) cs → All IsWholeMap (cored_of cs).pattern.entries
  unfolding cored_of
  cored_whole cs h =
      All-map IsWholeMap (λ (e : MapEntry). record e { variable = variable_in (core_first (trailed_of cs)) e.variable }) (trailed_of cs).pattern.entries (trailed_whole cs h)
