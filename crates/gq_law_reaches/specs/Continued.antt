-- The laws that the matches of a query's core, continued by its trails, are as they are meant.
use Rattle.std.specs.Prelude.{◌≡◌, ℕ, ◌<◌, ◌≤◌, nat_lt, true, ◌&&◌, List, [], ◌++◌, map, length}
use Rattle.std.specs.List.{AllByRecursion, list_all}
use Rattle.gq_base.specs.Lists.{all_distinct}
use Rattle.gq_base.specs.Plain.{Graph}
use Rattle.gq_base.specs.declared.RelId.{RelId}
use Rattle.gq_alternatives.specs.Matches.{is_match, pair_holds, pairs_from, pattern_matches}
use Rattle.gq_plan.specs.Counts.{bit, hits}
use Rattle.gq_plan.specs.Assignments.{Assignment, same_rel}
use Rattle.gq_scopes.specs.Patterns.{Pattern, RelPattern}
use Rattle.gq_law_trails.specs.Apart.{lists_for}
use Rattle.gq_law_trails.specs.Asked.{trails_asked}
use Rattle.gq_law_trails.specs.Met.{AreOrdered, is_trailed, trails_met}
use Rattle.gq_law_trails.specs.Real.{is_real}
use Rattle.gq_plan.specs.declared.TrailPart.{TrailPart}
use Rattle.gq_law_reaches.specs.Core.{continued, core_part, core_pattern, outer_match}
use Rattle.gq_law_reaches.specs.Reaches.{Reach, reaches, rels_in, without_trails}

-- without trails the matches of a query with trails are its matches
abbrev pub PlainReaches : Type 0
PlainReaches = (g : Graph) (p : Pattern) → map (λ (r : Reach). r.base) (reaches g (without_trails p)) ≡ pattern_matches g p

-- how often an assignment stands with its lists among the core's matches that trails continue: once, where its core is of the graph
-- and a match of the core, and the trails are met, and else not at all
abbrev pub CoreContinued : Type 0
CoreContinued =
    (g : Graph) (k : ℕ) (p : Pattern) (parts : List TrailPart) (t : Assignment) (ls : List (List RelId))
    → k ≤ length p.names → length t.nodes ≡ length p.names → length t.rels ≡ length p.rels → AreOrdered parts (λ v. nat_lt v k)
    → hits (is_trailed t ls) (continued g k p parts)
    ≡ bit ((is_real g (core_part k t) && is_match g (core_pattern k p) (core_part k t)) && trails_met g (λ clause. rels_in clause p.rels t.rels) parts t [] ls)

-- where patterns without star have different relationships in each pair, they have so in each clause
abbrev pub PairsAreDistinct : Type 0
PairsAreDistinct =
    (p : Pattern) (t : Assignment) → length p.rels ≡ length t.rels → list_all (pair_holds t) (pairs_from 0 p.rels) ≡ true
    → (clause : ℕ) → all_distinct same_rel (rels_in clause p.rels t.rels) ≡ true

-- so an assignment stands with its lists among the core's matches that trails continue exactly where its core is a match, each trail is
-- as it is meant, and in the clauses of trails all relationships are different
abbrev pub CoreContinuedAsMeant : Type 0
CoreContinuedAsMeant =
    (g : Graph) (k : ℕ) (p : Pattern) (parts : List TrailPart) (t : Assignment) (ls : List (List RelId))
    → k ≤ length p.names → length t.nodes ≡ length p.names → length t.rels ≡ length p.rels → length parts ≡ length ls → AreOrdered parts (λ v. nat_lt v k)
    → hits (is_trailed t ls) (continued g k p parts)
    ≡ bit
    ((is_real g (core_part k t) && is_match g (core_pattern k p) (core_part k t))
    && (trails_asked g parts t ls && list_all (λ (q : TrailPart). all_distinct same_rel (rels_in q.clause p.rels t.rels ++ lists_for q.clause parts ls)) parts))

-- an assignment is a match exactly where its core is one, and the labels and the map entries of the other node variables hold
abbrev pub MatchesPart : Type 0
MatchesPart =
    (g : Graph) (k : ℕ) (p : Pattern) (t : Assignment) → AllByRecursion (λ (r : RelPattern). (r.left < k) × (r.right < k)) p.rels
    → is_match g p t ≡ (is_match g (core_pattern k p) (core_part k t) && outer_match g k p t)
