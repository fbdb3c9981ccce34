-- The core of a query has no more patterns than the query: where these are few, those are few.
use Rattle.std.proofs.Common.{◌≡◌, ◌∙◌, ℕ, suc, ◌≤◌, Option, Some, None, List, [], ◌∷◌, ◌++◌, length, unwrap_or, refl, sym, ap, ap₂, subst, arith}
use Rattle.std.specs.Prelude.{filter, nat_lt, not, Bool}
use Rattle.std.proofs.lemmas.List.{length-map, length_push}
use Rattle.std.proofs.lemmas.List.Filters.{length-filter_both}
use Rattle.gq_alternatives.proofs.ShapesOfPatterns.{node_cases}
use Rattle.gq_plan.specs.declared.PathPart.{PathPart}
use Rattle.gq_scopes.specs.Patterns as plain
use Rattle.gq_scopes.specs.Patterns.{NodePattern, Pattern, RelPattern, known_as, no_pattern, pattern_of, variable_of, with_node, with_part, with_rel}
use Rattle.gq_ast.specs.declared.Clause.{Clause}
use Rattle.gq_ast.specs.declared.Hop.{Hop}
use Rattle.gq_ast.specs.declared.NodePart.{NodePart}
use Rattle.gq_ast.specs.declared.Path.{Path}
use Rattle.gq_ast.specs.declared.Range.{Range}
use Rattle.gq_law_cuts.specs.Cuts.{alone_in, in_pattern, piece_behind, trailed_of, with_clauses, with_hop, with_hops, with_path, with_paths}
use Rattle.gq_law_cuts.specs.Cuts.{core_first, core_of, core_size, pattern_in}
use Rattle.gq_scopes.specs.Renumbering.{placed_in}
use Rattle.gq_law_cuts.specs.Shaped.{core_pattern_of}
use Rattle.gq_law_reaches.specs.Reaches.{Trailed}
use Rattle.gq_core.proofs.Coring.{cored_is}

-- patterns as they are read without cuts and with them: the same node patterns, and not more relationships
pub record AreFewer (p r : Pattern) : Type 0 where
  pub names : p.names ≡ r.names
  pub nodes : p.nodes ≡ r.nodes
  pub rels : length r.rels ≤ length p.rels

module _ (part : NodePart) (p r : Pattern) (names : p.names ≡ r.names) (nodes : p.nodes ≡ r.nodes) where
  one : variable_of p part ≡ variable_of r part
  one = ap (λ ns. unwrap_or (known_as ns part.name) (length ns)) names

  long : length p.names ≡ length r.names
  long = ap length names

  behind : (v w : ℕ) → v ≡ w → p.nodes ++ record { variable = v; part = part } ∷ [] ≡ r.nodes ++ record { variable = w; part = part } ∷ []
  behind v w e = ap₂ (λ (ns : List NodePattern) x. ns ++ record { variable = x; part = part } ∷ []) nodes e

  node_same : ((with_node part p).names ≡ (with_node part r).names) × ((with_node part p).nodes ≡ (with_node part r).nodes)
  node_same =
      node_cases (λ x. (x.names ≡ (with_node part r).names) × (x.nodes ≡ (with_node part r).nodes)) part p
      (λ v low is.
      node_cases (λ y. (p.names ≡ y.names) × (p.nodes ++ record { variable = v; part = part } ∷ [] ≡ y.nodes)) part r
      (λ w less at. (names, behind v w (sym is ∙ one ∙ at)))
      (λ at. let far : v ≡ length r.names = sym is ∙ one ∙ at in absurd (omega (arith, far, low, long))))
      (λ is.
      node_cases (λ y. (p.names ++ part.name ∷ [] ≡ y.names) × (p.nodes ++ record { variable = length p.names; part = part } ∷ [] ≡ y.nodes)) part r
      (λ w less at. let far : length p.names ≡ w = sym is ∙ one ∙ at in absurd (omega (arith, far, less, long)))
      (λ at. (ap (λ ns. ns ++ part.name ∷ []) names, behind (length p.names) (length r.names) long)))

fewer_node : (part : NodePart) (p r : Pattern) → AreFewer p r → AreFewer (with_node part p) (with_node part r)
fewer_node part p r h =
    let same = node_same part p r h.names h.nodes in
    let few : length (with_node part r).rels ≤ length (with_node part p).rels = subst (λ n. n ≤ length (with_node part p).rels) (sym (kept part r)) (subst (λ n. length r.rels ≤ n) (sym (kept part p)) h.rels) in
    record { names = same.0; nodes = same.1; rels = few }
  where
    kept : (part : NodePart) (p : Pattern) → length (with_node part p).rels ≡ length p.rels
    kept part p = node_cases (λ x. length x.rels ≡ length p.rels) part p (λ v low is. refl) (λ is. refl)

fewer_hop : (range : Option Range) (clause : ℕ) (piece : PathPart) (left right : ℕ) (l : ℕ) (m : ℕ) (hop : Hop) (p : Pattern) (q : Trailed)
    → AreFewer p q.pattern → AreFewer (with_node hop.node (with_rel clause l m hop.rel p)) (with_hop range clause piece left right hop q).pattern
fewer_hop None clause piece left right l m hop p q h =
    fewer_node hop.node (with_rel clause l m hop.rel p) (with_rel clause left right hop.rel q.pattern)
    (record { names = h.names; nodes = h.nodes; rels = let a = length_push p.rels (record { clause = clause; left = l; right = m; part = hop.rel }) in let b = length_push q.pattern.rels (record { clause = clause; left = left; right = right; part = hop.rel }) in let c = h.rels in omega (arith, a, b, c) })
fewer_hop (Some range) clause piece left right l m hop p q h =
    fewer_node hop.node (with_rel clause l m hop.rel p) (record (with_part piece q.pattern) { unnamed = suc q.pattern.unnamed })
    (record { names = h.names; nodes = h.nodes; rels = let a = length_push p.rels (record { clause = clause; left = l; right = m; part = hop.rel }) in let c = h.rels in omega (arith, a, c) })

fewer_hops : (clause : ℕ) (piece : PathPart) (l left : ℕ) (hops : List Hop) (p : Pattern) (q : Trailed) → AreFewer p q.pattern
    → AreFewer (plain.with_hops clause l hops p) (with_hops clause piece left hops q).pattern
fewer_hops clause piece l left [] p q h = record { names = h.names; nodes = h.nodes; rels = h.rels }
fewer_hops clause piece l left (hop ∷ hops) p q h =
    fewer_hops clause (piece_behind hop.rel.trail piece (length q.pattern.rels) (variable_of q.pattern hop.node)) (variable_of p hop.node) (variable_of q.pattern hop.node) hops
    (with_node hop.node (with_rel clause l (variable_of p hop.node) hop.rel p)) (with_hop hop.rel.trail clause piece left (variable_of q.pattern hop.node) hop q)
    (fewer_hop hop.rel.trail clause piece left (variable_of q.pattern hop.node) l (variable_of p hop.node) hop p q h)

fewer_path : (clause : ℕ) (path : Path) (p : Pattern) (q : Trailed) → AreFewer p q.pattern → AreFewer (plain.with_path clause path p) (with_path clause path q).pattern
fewer_path clause path p q h =
    let v : ℕ = variable_of q.pattern path.first in
    let all = fewer_hops clause (record { first = v; rels = [] }) (variable_of p path.first) v path.hops (with_node path.first p)
    (record (in_pattern (with_node path.first) q) { alone = q.alone ++ alone_in path.hops v }) (fewer_node path.first p q.pattern h) in
    record { names = all.names; nodes = all.nodes; rels = all.rels }

fewer_paths : (clause : ℕ) (paths : List Path) (p : Pattern) (q : Trailed) → AreFewer p q.pattern → AreFewer (plain.with_paths clause paths p) (with_paths clause paths q).pattern
fewer_paths clause [] p q h = h
fewer_paths clause (path ∷ paths) p q h = fewer_paths clause paths (plain.with_path clause path p) (with_path clause path q) (fewer_path clause path p q h)

fewer_clauses : (number : ℕ) (cs : List Clause) (p : Pattern) (q : Trailed) → AreFewer p q.pattern → AreFewer (plain.with_clauses number cs p) (with_clauses number cs q).pattern
fewer_clauses number [] p q h = h
fewer_clauses number (c ∷ cs) p q h = fewer_clauses (suc number) cs (plain.with_paths number c.paths p) (with_paths number c.paths q) (fewer_paths number c.paths p q h)

pub trailed_fewer : (clauses : List Clause) → AreFewer (pattern_of clauses) (trailed_of clauses).pattern
unfolding pattern_of trailed_of
trailed_fewer clauses = fewer_clauses 0 clauses no_pattern _ (record { names = refl; nodes = refl; rels = omega arith })

-- ---- and so has their core

fewer_kept : {X : Type 0} (f : X → Bool) (xs : List X) → length (filter f xs) ≤ length xs
fewer_kept f xs = let both = length-filter_both f (λ x. not (f x)) (λ x. refl) xs in omega (arith, both)

few_nodes : (k : ℕ) (o : List ℕ) (p : Pattern) → length (core_of k (pattern_in o p)).nodes ≤ length p.nodes
few_nodes k o p = subst (λ n. length (core_of k (pattern_in o p)).nodes ≤ n) (length-map p.nodes (λ (n : NodePattern). record n { variable = placed_in o n.variable }))
    (fewer_kept (λ (n : NodePattern). nat_lt n.variable k) (pattern_in o p).nodes)

few_rels : (k : ℕ) (o : List ℕ) (p : Pattern) → length (core_of k (pattern_in o p)).rels ≡ length p.rels
few_rels k o p = length-map p.rels (λ (r : RelPattern). record r { left = placed_in o r.left; right = placed_in o r.right })

pub core_nodes_fewer : (clauses : List Clause) → length (core_pattern_of clauses).nodes ≤ length (pattern_of clauses).nodes
core_nodes_fewer clauses =
    subst (λ (q : Trailed). length (core_of (core_size clauses) q.pattern).nodes ≤ length (pattern_of clauses).nodes) (sym (cored_is clauses))
    (subst (λ ns. length (core_of (core_size clauses) (pattern_in (core_first (trailed_of clauses)) (trailed_of clauses).pattern)).nodes ≤ length ns) (sym (trailed_fewer clauses).nodes)
    (few_nodes (core_size clauses) (core_first (trailed_of clauses)) (trailed_of clauses).pattern))

pub core_rels_fewer : (clauses : List Clause) → length (core_pattern_of clauses).rels ≤ length (pattern_of clauses).rels
core_rels_fewer clauses =
    subst (λ (q : Trailed). length (core_of (core_size clauses) q.pattern).rels ≤ length (pattern_of clauses).rels) (sym (cored_is clauses))
    (subst (λ n. n ≤ length (pattern_of clauses).rels) (sym (few_rels (core_size clauses) (core_first (trailed_of clauses)) (trailed_of clauses).pattern)) (trailed_fewer clauses).rels)
