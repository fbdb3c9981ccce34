-- The matches of a query with trails in a plain graph (openCypher 9, variable length patterns and relationship uniqueness): a
-- filtered product, with no plan and no order of walking.
use Rattle.std.specs.Prelude.{ℕ, ◌+◌, nat_eq, nat_le, Bool, ◌&&◌, List, [], ◌∷◌, ◌++◌, map, filter, flat_map, length, slice_get, if◌then◌else◌, true}
use Rattle.std.specs.List.{list_all, range_with_len}
use Rattle.gq_base.specs.Lists.{all_distinct}
use Rattle.gq_base.specs.Plain.{Graph}
use Rattle.gq_base.specs.declared.RelId.{RelId}
use Rattle.gq_plan.specs.Assignments.{Assignment, all_rels, assignments, same_rel, tuples}
use Rattle.gq_alternatives.specs.Matches.{has_type, is_match}
use Rattle.gq_scopes.specs.Patterns.{Name, Pattern, RelPattern}
use Rattle.gq_law_trails.specs.Walks.{chained}

-- a trail: the number of its MATCH clause, the node variables at its left and at its right, whether its arrow leads from left to
-- right, the type of its relationships, and the fewest and the most of them
pub record TrailPattern : Type 0 where
  pub clause : ℕ
  pub left : ℕ
  pub right : ℕ
  pub forward : Bool
  pub kind : Name
  pub low : ℕ
  pub high : ℕ

-- where its arrow starts, and where it ends
abbrev pub start_of : TrailPattern → ℕ
start_of p = if p.forward then p.left else p.right

abbrev pub end_of : TrailPattern → ℕ
end_of p = if p.forward then p.right else p.left

-- the patterns of a query: those without star, whose paths are pieces, cut at the trails; the trails, in text order; and the node
-- variables of whole paths of one node
pub record Trailed : Type 0 where
  pub pattern : Pattern
  pub trails : List TrailPattern
  pub alone : List ℕ

-- an assignment, with a list of relationships for each trail
pub record Reach : Type 0 where
  pub base : Assignment
  pub trails : List (List RelId)

-- ---- one trail

abbrev pub trail_holds : Graph → Assignment → TrailPattern → List RelId → Bool
trail_holds g t p l =
    (nat_le p.low (length l) && nat_le (length l) p.high)
    && (list_all (λ (r : RelId). has_type g.catalog (p.kind ∷ []) r.table) l
    && chained g (slice_get t.nodes (start_of p)) l (slice_get t.nodes (end_of p)))

abbrev pub trails_hold : Graph → Assignment → List TrailPattern → List (List RelId) → Bool
trails_hold g t [] ls = true
trails_hold g t (p ∷ ps) [] = true
trails_hold g t (p ∷ ps) (l ∷ ls) = trail_holds g t p l && trails_hold g t ps ls

-- ---- different relationships in each clause

-- what the patterns of a clause get, and what its trails get
abbrev pub rels_in : ℕ → List RelPattern → List RelId → List RelId
rels_in clause [] rs = []
rels_in clause (p ∷ ps) [] = []
rels_in clause (p ∷ ps) (r ∷ rs) = (if nat_eq p.clause clause then r ∷ [] else []) ++ rels_in clause ps rs

abbrev pub lists_in : ℕ → List TrailPattern → List (List RelId) → List RelId
lists_in clause [] ls = []
lists_in clause (p ∷ ps) [] = []
lists_in clause (p ∷ ps) (l ∷ ls) = (if nat_eq p.clause clause then l else []) ++ lists_in clause ps ls

abbrev pub differ_in : Trailed → Reach → ℕ → Bool
differ_in q t clause = all_distinct same_rel (rels_in clause q.pattern.rels t.base.rels ++ lists_in clause q.trails t.trails)

-- ---- matches

-- labels, types, ends, map entries and the pairs of patterns without star; each trail; and in the clauses of the trails no
-- relationship twice
abbrev pub is_reach : Graph → Trailed → Reach → Bool
is_reach g q t =
    is_match g q.pattern t.base
    && (trails_hold g t.base q.trails t.trails && list_all (λ (p : TrailPattern). differ_in q t p.clause) q.trails)

-- the lists of at most so many relationships
abbrev pub trail_lists : ℕ → Graph → List (List RelId)
trail_lists most g = flat_map (λ n. tuples n (all_rels g)) (range_with_len 0 (most + 1))

-- all choices of nodes, relationships, and lists of at most so many relationships
unfoldable pub reach_choices : ℕ → Graph → Trailed → List Reach
reach_choices most g q =
    flat_map (λ t. map (λ ls. record { base = t; trails = ls }) (tuples (length q.trails) (trail_lists most g)))
    (assignments (length q.pattern.names) (length q.pattern.rels) g)

-- a query without trails
abbrev pub without_trails : Pattern → Trailed
without_trails p = record { pattern = p; trails = []; alone = [] }

-- the matches of a query with trails, of which none is longer than 16
unfoldable pub reaches : Graph → Trailed → List Reach
reaches g q = filter (is_reach g q) (reach_choices 16 g q)
