-- What the alternatives of a bound query have of its matches: each match lies in exactly one of them, and what an alternative allows are
-- those of the matches that lie in it and make its tests true.
use Rattle.std.specs.Prelude.{◌≡◌, ◌&&◌, IsTrue, All, List, filter, length}
use Rattle.std.specs.List.{list_all}
use Rattle.gq_base.specs.Catalogs.{Tables}
use Rattle.gq_base.specs.Plain.{Graph}
use Rattle.gq_base.specs.Valid.{is_valid}
use Rattle.gq_alternatives.specs.Matches.{matches, pattern_matches}
use Rattle.gq_ast.specs.declared.Query.{Query}
use Rattle.gq_law_answers.specs.Answered.{allowed}
use Rattle.gq_law_cuts.specs.Plain.{HaveNoTrail}
use Rattle.gq_law_cuts.specs.Shaped.{core_pattern_of}
use Rattle.gq_plan.specs.Allowed.{lies_in}
use Rattle.gq_plan.specs.Assignments.{Assignment, row_of}
use Rattle.gq_plan.specs.Conditions.{passes}
use Rattle.gq_plan.specs.declared.Bound.{Bound}
use Rattle.gq_plan.specs.declared.Typed.{Typed}

-- the matches of the core of a query's MATCH clauses
abbrev pub core_matches : Query → Graph → List Assignment
core_matches query g = pattern_matches g (core_pattern_of query.clauses)

-- those that lie in an alternative and make its tests true
abbrev pub core_passing : Query → Graph → Typed → List Assignment
core_passing query g y =
    filter (λ t. lies_in g y t && list_all (passes g (row_of t)) y.tests) (core_matches query g)

-- each match of the core lies in exactly one alternative; what an alternative allows are those that lie in it and make its tests true; and
-- without trails these are the matches of the query
pub record PartMatchesIn (g : Graph) (query : Query) (bound : Bound) : Type 0 where
  pub once : All (λ t. length (filter (λ y. lies_in g y t) bound.alternatives) ≡ 1) (core_matches query g)
  pub passing : All (λ y. allowed g y ≡ core_passing query g y) bound.alternatives
  pub plain : HaveNoTrail query.clauses → core_matches query g ≡ matches query g

-- so in each valid graph with these tables
abbrev pub PartMatches : Query → Tables → Bound → Type 0
PartMatches query catalog bound =
    (g : Graph) → g.catalog ≡ catalog → IsTrue (is_valid g) → PartMatchesIn g query bound
