-- The law that the matches of a query's core, continued by its trails, are as a bag the matches of the query.
use Rattle.std.specs.Prelude.{◌≡◌, ℕ, ◌≤◌, true, IsPermutation, List, map, flat_map, length}
use Rattle.std.specs.List.{AllByRecursion, range_with_len}
use Rattle.gq_base.specs.Plain.{Graph}
use Rattle.gq_base.specs.Valid.{is_valid}
use Rattle.gq_plan.specs.Assignments.{Assignment}
use Rattle.gq_plan.specs.Meaning.{Partial, found, look}
use Rattle.gq_plan.specs.declared.NamedExpr.{NamedExpr}
use Rattle.gq_scopes.specs.Patterns.{MapEntry}
use Rattle.gq_law_trails.specs.Trails.{Trailing}
use Rattle.gq_law_reaches.specs.Core.{continued, trail_parts}
use Rattle.gq_law_reaches.specs.Cores.{IsCored}
use Rattle.gq_law_reaches.specs.Reaches.{Reach, TrailPattern, Trailed, reaches}
use Rattle.gq_law_reaches.specs.Turned.{AreTests, turned_all}

-- what is bound to so many node variables and so many relationship variables, in the order of the variables
abbrev pub assigned : ℕ → ℕ → Partial → Assignment
assigned n m a = record {
  nodes = flat_map (λ v. found (look a.nodes v)) (range_with_len 0 n);
  rels = flat_map (λ x. found (look a.rels x)) (range_with_len 0 m);
}

-- what trails have bound, with their lists along their arrows
abbrev pub reach_of : (MapEntry → NamedExpr) → Trailed → Trailing → Reach
reach_of test q m = record {
  base = assigned (length q.pattern.names) (length q.pattern.rels) m.row;
  trails = turned_all (trail_parts test q) m.lists;
}

-- no trail is longer than 16
abbrev pub AreShort : List TrailPattern → Type 0
AreShort ws = AllByRecursion (λ (w : TrailPattern). w.high ≤ 16) ws

-- in a valid graph, the matches of the core that the trails continue are the matches of the query, each once
abbrev pub ContinuedAreReaches : Type 0
ContinuedAreReaches =
    (g : Graph) (test : MapEntry → NamedExpr) (k : ℕ) (q : Trailed)
    → is_valid g ≡ true → AreTests test → IsCored k q → AreShort q.trails
    → IsPermutation (map (reach_of test q) (continued g k q.pattern (trail_parts test q))) (reaches g q)
