-- The trails of a query, as they are written, are those that its patterns have: each with its arrow.
use Rattle.std.proofs.Common.{◌≡◌, ℕ, suc, Bool, true, false, Option, Some, None, List, [], ◌∷◌, ◌++◌, map, flat_map, length, refl, sym, ap, ◌∙◌, append-nil, append_assoc, ◌&&◌, ◌||◌, codes, if◌then◌else◌}
use Rattle.std.proofs.lemmas.List.{length-map, map-append}
use Rattle.gq_bound.specs.Binding.{IsBound}
use Rattle.gq_base.specs.Catalogs.{Tables}
use Rattle.gq_core.specs.Entries.{entry_test}
use Rattle.gq_explain.specs.Plans.{ends_word, is_from_left}
use Rattle.gq_law_cuts.specs.Cuts.{core_first, cored_of, piece_behind, trailed_of, with_clauses, with_hop, with_hops, with_path, with_paths}
use Rattle.gq_scopes.specs.Renumbering.{placed_in}
use Rattle.gq_law_reaches.specs.Core.{core_nodes, part_of, parts_from, way_of}
use Rattle.gq_law_reaches.specs.Reaches.{TrailPattern, Trailed, without_trails}
use Rattle.gq_plan.specs.declared.Bound.{Bound}
use Rattle.gq_plan.specs.declared.NamedExpr.{NamedExpr}
use Rattle.gq_plan.specs.declared.PathPart.{PathPart}
use Rattle.gq_reply.specs.Arrows.{clause_arrows, hop_arrows, path_arrows, trail_arrows}
use Rattle.gq_scopes.specs.Patterns.{MapEntry, Pattern, no_pattern, variable_of}
use Rattle.gq_ast.specs.declared.Clause.{Clause}
use Rattle.gq_ast.specs.declared.Hop.{Hop}
use Rattle.gq_ast.specs.declared.Path.{Path}
use Rattle.gq_ast.specs.declared.Query.{Query}
use Rattle.gq_ast.specs.declared.Range.{Range}

abbrev pub forwards : List TrailPattern → List Bool
forwards ts = map (λ (t : TrailPattern). t.forward) ts

-- a hop adds its arrow, where it is a trail
hop_adds : (clause : ℕ) (piece : PathPart) (left right : ℕ) (h : Hop) (q : Trailed) → forwards (with_hop h.rel.trail clause piece left right h q).trails ≡ forwards q.trails ++ hop_arrows h
hop_adds clause piece left right h q = go h.rel.trail refl
  where
    go : (o : Option Range) → h.rel.trail ≡ o → forwards (with_hop h.rel.trail clause piece left right h q).trails ≡ forwards q.trails ++ hop_arrows h
    go None e = rw e (sym (append-nil (forwards q.trails)))
    go (Some range) e = rw e (map-append _ q.trails _)

hops_add : (clause : ℕ) (piece : PathPart) (left : ℕ) (hs : List Hop) (q : Trailed) → forwards (with_hops clause piece left hs q).trails ≡ forwards q.trails ++ flat_map hop_arrows hs
hops_add clause piece left [] q = sym (append-nil (forwards q.trails))
hops_add clause piece left (h ∷ hs) q =
    let v : ℕ = variable_of q.pattern h.node in
    hops_add clause (piece_behind h.rel.trail piece (length q.pattern.rels) v) v hs (with_hop h.rel.trail clause piece left v h q)
    ∙ ap (λ l. l ++ flat_map hop_arrows hs) (hop_adds clause piece left v h q)
    ∙ append_assoc (forwards q.trails) (hop_arrows h) (flat_map hop_arrows hs)

paths_add : (clause : ℕ) (paths : List Path) (q : Trailed) → forwards (with_paths clause paths q).trails ≡ forwards q.trails ++ flat_map path_arrows paths
paths_add clause [] q = sym (append-nil (forwards q.trails))
paths_add clause (path ∷ paths) q =
    paths_add clause paths (with_path clause path q)
    ∙ ap (λ l. l ++ flat_map path_arrows paths) (hops_add clause _ (variable_of q.pattern path.first) path.hops _)
    ∙ append_assoc (forwards q.trails) (path_arrows path) (flat_map path_arrows paths)

clauses_add : (number : ℕ) (cs : List Clause) (q : Trailed) → forwards (with_clauses number cs q).trails ≡ forwards q.trails ++ flat_map clause_arrows cs
clauses_add number [] q = sym (append-nil (forwards q.trails))
clauses_add number (c ∷ cs) q =
    clauses_add (suc number) cs (with_paths number c.paths q)
    ∙ ap (λ l. l ++ flat_map clause_arrows cs) (paths_add number c.paths q)
    ∙ append_assoc (forwards q.trails) (clause_arrows c) (flat_map clause_arrows cs)

-- the trails as they are read have the arrows that are written
read_arrows : (clauses : List Clause) → forwards (trailed_of clauses).trails ≡ trail_arrows clauses
unfolding trailed_of
read_arrows clauses = clauses_add 0 clauses (without_trails no_pattern)

numbered_arrows : (order : List ℕ) (ts : List TrailPattern) → forwards (map (λ (t : TrailPattern). record t { left = placed_in order t.left; right = placed_in order t.right }) ts) ≡ forwards ts
numbered_arrows order [] = refl
numbered_arrows order (t ∷ ts) = ap (λ l. t.forward ∷ l) (numbered_arrows order ts)

-- those that are numbered with the core first too
pub cored_arrows : (clauses : List Clause) → forwards (cored_of clauses).trails ≡ trail_arrows clauses
unfolding cored_of
cored_arrows clauses = numbered_arrows (core_first (trailed_of clauses)) (trailed_of clauses).trails ∙ read_arrows clauses

parts_long : (test : MapEntry → NamedExpr) (p : Pattern) (known : List ℕ) (ts : List TrailPattern) → length (parts_from test p known ts) ≡ length ts
parts_long test p known [] = refl
parts_long test p known (t ∷ ts) = ap suc (parts_long test p (t.left ∷ t.right ∷ known) ts)

-- a bound query has as many trails as are written
pub arrows_long : (query : Query) (text : List ℕ) (catalog : Tables) (bound : Bound) → IsBound query text catalog bound → length (trail_arrows query.clauses) ≡ length bound.trails
arrows_long query text catalog bound is =
    let q : Trailed = cored_of query.clauses in
    ap length (sym (cored_arrows query.clauses)) ∙ length-map q.trails (λ (t : TrailPattern). t.forward)
    ∙ sym (parts_long (entry_test text) q.pattern (core_nodes q) q.trails) ∙ ap length (sym is.trails)

from_left : (left forward : Bool) → is_from_left forward (way_of left forward) ≡ left
from_left true true = refl
from_left true false = refl
from_left false true = refl
from_left false false = refl

-- the word of a trail tells which of its ends are bound when its turn comes, of which one is
pub word_is : (test : MapEntry → NamedExpr) (p : Pattern) (left right : Bool) (t : TrailPattern) → (left || right) ≡ true
    → ends_word t.forward (part_of test p left right t) ≡ (if left && right then codes "both" else if left then codes "left" else codes "right")
word_is test p true true t one = refl
word_is test p true false t one = ap (λ b. if b then codes "left" else codes "right") (from_left true t.forward)
word_is test p false true t one = ap (λ b. if b then codes "left" else codes "right") (from_left false t.forward)
word_is test p false false t one = cc one
