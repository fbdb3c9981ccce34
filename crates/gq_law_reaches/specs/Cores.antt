-- The law that the matches of a query's core, continued by its trails, are the matches of the query.
use Rattle.std.specs.Prelude.{◌≡◌, ℕ, ◌<◌, ◌≤◌, nat_eq, nat_lt, Bool, true, false, ◌&&◌, ◌||◌, List, [], ◌∷◌, length}
use Rattle.std.specs.List.{AllByRecursion, list_all, list_any}
use Rattle.gq_base.specs.Plain.{Graph}
use Rattle.gq_base.specs.Valid.{is_valid}
use Rattle.gq_base.specs.declared.RelId.{RelId}
use Rattle.gq_plan.specs.Counts.{bit, hits}
use Rattle.gq_plan.specs.Assignments.{Assignment, is_rel}
use Rattle.gq_plan.specs.Soundness.{has_number}
use Rattle.gq_plan.specs.declared.Variable.TheVariants.{Node as node}
use Rattle.gq_scopes.specs.Patterns.{MapEntry, NodePattern, RelPattern}
use Rattle.gq_law_trails.specs.Met.{is_trailed}
use Rattle.gq_law_trails.specs.Real.{is_real}
use Rattle.gq_law_reaches.specs.Core.{continued, core_nodes, trail_parts}
use Rattle.gq_law_reaches.specs.Reaches.{TrailPattern, Trailed, is_reach}
use Rattle.gq_law_reaches.specs.Turned.{AreTests, turned_all}
use Rattle.gq_plan.specs.declared.NamedExpr.{NamedExpr}

-- when a trail's turn comes, one of its ends is known
abbrev pub AreReached : List ℕ → List TrailPattern → Type 0
AreReached known [] = Unit {0}
AreReached known (w ∷ ws) = ((has_number known w.left || has_number known w.right) ≡ true) × AreReached (w.left ∷ w.right ∷ known) ws

-- a variable is an end of a trail
abbrev pub is_end : ℕ → TrailPattern → Bool
is_end v w = nat_eq w.left v || nat_eq w.right v

-- the core's variables are the first k; the patterns speak of the query's variables, those of relationships without star of the core's;
-- each other variable is an end of a trail, and no trail is empty
pub record IsCored (k : ℕ) (q : Trailed) : Type 0 where
  pub core : (v : ℕ) → has_number (core_nodes q) v ≡ nat_lt v k
  pub within : k ≤ length q.pattern.names
  pub ends : AllByRecursion (λ (w : TrailPattern). (w.left < length q.pattern.names) × (w.right < length q.pattern.names)) q.trails
  pub some : AllByRecursion (λ (w : TrailPattern). 1 ≤ w.low) q.trails
  pub nodes : AllByRecursion (λ (m : NodePattern). m.variable < length q.pattern.names) q.pattern.nodes
  pub entries : AllByRecursion (λ (e : MapEntry). (v : ℕ) → e.variable ≡ node v → v < length q.pattern.names) q.pattern.entries
  pub rels : AllByRecursion (λ (r : RelPattern). (r.left < k) × (r.right < k)) q.pattern.rels
  pub outside : (v : ℕ) → nat_lt v k ≡ false → v < length q.pattern.names → list_any (is_end v) q.trails ≡ true

-- in a valid graph, an assignment stands with its lists, turned as they are walked, once among the matches of the core that the trails
-- continue, where it and its lists are of the graph and it is with them a match of the query; and else not at all
abbrev pub CoresContinuedToReaches : Type 0
CoresContinuedToReaches =
    (g : Graph) (test : MapEntry → NamedExpr) (k : ℕ) (q : Trailed) (t : Assignment) (ls : List (List RelId)) → is_valid g ≡ true → AreTests test → IsCored k q
    → length t.nodes ≡ length q.pattern.names → length t.rels ≡ length q.pattern.rels → length q.trails ≡ length ls
    → hits (is_trailed t (turned_all (trail_parts test q) ls)) (continued g k q.pattern (trail_parts test q))
    ≡ bit ((is_real g t && list_all (list_all (is_rel g)) ls) && is_reach g q (record { base = t; trails = ls }))
