-- The laws of a query with trails whose core is bound: plans of its alternatives, continued by trails, make what its matches make.
use Rattle.std.specs.Prelude.{◌≡◌, ℕ, Result, IsTrue, IsPermutation, All, List, filter, flat_map, map}
use Rattle.gq_base.specs.Catalogs.{Tables}
use Rattle.gq_base.specs.Plain.{Graph}
use Rattle.gq_base.specs.Valid.{is_valid}
use Rattle.gq_alternatives.specs.Matches.{pattern_matches}
use Rattle.gq_core.specs.Entries.{entry_test}
use Rattle.gq_expr.specs.Reading as reading
use Rattle.gq_expr.specs.declared.Fault.{Fault}
use Rattle.gq_law_reaches.specs.Core.{trail_parts}
use Rattle.gq_law_reaches.specs.Reaches.{Reach, reaches}
use Rattle.gq_plan.specs.Allowed.{lies_in}
use Rattle.gq_plan.specs.Assignments.{Assignment}
use Rattle.gq_plan.specs.Marked.{Marked, made_of}
use Rattle.gq_plan.specs.Outcomes.{Row}
use Rattle.gq_plan.specs.declared.Bound.{Bound}
use Rattle.gq_scopes.specs.Patterns.{pattern_of}
use Rattle.gq_ast.specs.declared.Clause.{Clause}
use Rattle.gq_law_cuts.specs.Cuts.{HaveLengths, core_size, cored_of}
use Rattle.gq_law_cores.specs.Made.{MakesContinued, made_by, trail_rows}
use Rattle.gq_law_cuts.specs.Plain.{HaveNoTrail}
use Rattle.gq_law_cuts.specs.Shaped.{core_pattern_of}
use Rattle.gq_law_cores.specs.Typing.{HasCores}
use Rattle.gq_law_cuts.specs.Typing.{stays_in}

-- the matches of MATCH clauses: the nodes and the relationships of patterns without star, for each choice of lists of the trails
abbrev pub trail_matches : Graph → List Clause → List Assignment
trail_matches g clauses = map (λ (r : Reach). r.base) (reaches g (cored_of clauses))

-- the rows by which their trails continue a match of their core
abbrev pub core_rows : Graph → List ℕ → List Clause → Assignment → List reading.Assignment
core_rows g text clauses t = trail_rows g (cored_of clauses).pattern (trail_parts (entry_test text) (cored_of clauses)) t

-- a bound query has the alternatives of their core; conjuncts that read other variables are late
abbrev pub IsCoreBound : List ℕ → Tables → List Clause → Bound → Type 0
IsCoreBound text catalog clauses bound = HasCores text catalog (core_pattern_of clauses) (stays_in (core_size clauses)) bound

-- a plan that covers an alternative makes of its own assignments, continued, by the late conjuncts alone what the matches of the core that
-- lie in the alternative make
abbrev pub EachPlanMakesTrails : Type 0
EachPlanMakesTrails =
    (g : Graph) (text : List ℕ) (clauses : List Clause) (bound : Bound) (later : Marked → List (Result Row Fault))
    → IsTrue (is_valid g) → HaveLengths clauses → IsCoreBound text g.catalog clauses bound
    → All (MakesContinued g (core_pattern_of clauses) bound (core_rows g text clauses) later) bound.alternatives

-- and the alternatives together make what the matches of the clauses make
abbrev pub AlternativesPartTrails : Type 0
AlternativesPartTrails =
    (g : Graph) (text : List ℕ) (clauses : List Clause) (bound : Bound) (later : Marked → List (Result Row Fault))
    → IsTrue (is_valid g) → HaveLengths clauses → IsCoreBound text g.catalog clauses bound
    → IsPermutation
    (flat_map
    (λ y. made_by g bound.conjuncts (core_rows g text clauses) later (filter (lies_in g y) (pattern_matches g (core_pattern_of clauses))))
    bound.alternatives)
    (made_of g bound.conjuncts later (trail_matches g clauses))

-- without trails these matches are those of the patterns
abbrev pub PlainTrailMatches : Type 0
PlainTrailMatches =
    (g : Graph) (clauses : List Clause) → HaveNoTrail clauses → trail_matches g clauses ≡ pattern_matches g (pattern_of clauses)
