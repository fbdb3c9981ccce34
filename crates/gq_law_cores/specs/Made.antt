-- The laws of whatever is made of the rows by which assignments are continued: plans of the core's alternatives make it as the core's
-- matches do, the alternatives together as all of them, and the core's matches as the matches of the query.
use Rattle.std.specs.Prelude.{◌≡◌, ℕ, Bool, true, Result, IsTrue, IsPermutation, All, List, [], filter, flat_map, map}
use Rattle.std.specs.List.{AllByRecursion}
use Rattle.gq_base.specs.Plain.{Graph}
use Rattle.gq_base.specs.Valid.{is_valid}
use Rattle.gq_expr.specs.Meaning.{meaning}
use Rattle.gq_expr.specs.Reading as reading
use Rattle.gq_expr.specs.declared.Fault.{Fault}
use Rattle.gq_alternatives.specs.Matches.{pattern_matches}
use Rattle.gq_law_cores.specs.Typing.{HasCores}
use Rattle.gq_law_cuts.specs.Typing.{stays_in}
use Rattle.gq_law_reaches.specs.Bags.{AreShort}
use Rattle.gq_law_reaches.specs.Core.{begin_of, core_pattern, patterns_of, trail_parts}
use Rattle.gq_law_reaches.specs.Cores.{IsCored}
use Rattle.gq_law_reaches.specs.Reaches.{Reach, Trailed, reaches}
use Rattle.gq_law_reaches.specs.Turned.{AreTests}
use Rattle.gq_law_trails.specs.Trails.{Trailing, after_trails}
use Rattle.gq_plan.specs.declared.TrailPart.{TrailPart}
use Rattle.gq_plan.specs.Allowed.{lies_in}
use Rattle.gq_plan.specs.Assignments.{Assignment, row_of}
use Rattle.gq_plan.specs.Covers.{Covers}
use Rattle.gq_plan.specs.Marked.{Marked, made_of, marked}
use Rattle.gq_plan.specs.Meaning as plan
use Rattle.gq_plan.specs.Outcomes.{Row, late_conjuncts}
use Rattle.gq_plan.specs.Plans.{Plan}
use Rattle.gq_plan.specs.declared.Bound.{Bound}
use Rattle.gq_plan.specs.declared.NamedExpr.{NamedExpr}
use Rattle.gq_plan.specs.declared.Typed.{Typed}
use Rattle.gq_scopes.specs.Patterns.{MapEntry, Pattern}

-- ---- rows by which assignments are continued

-- what is made of the rows by which assignments are continued, and which conjuncts do not leave out
abbrev pub made_by : Graph → List NamedExpr → (Assignment → List reading.Assignment) → (Marked → List (Result Row Fault)) → List Assignment → List (Result Row Fault)
made_by g conjuncts continue later ts = flat_map (λ t. flat_map (λ r. flat_map later (marked g conjuncts r)) (continue t)) ts

-- a conjunct that stays means for each row by which an assignment is continued what it means for the assignment
abbrev pub Agrees : Graph → (NamedExpr → Bool) → Assignment → reading.Assignment → Type 0
Agrees g stays t r = (e : NamedExpr) → stays e ≡ true → meaning g r e.expr ≡ meaning g (row_of t) e.expr

abbrev pub Continues : Graph → (NamedExpr → Bool) → (Assignment → List reading.Assignment) → Type 0
Continues g stays continue = (t : Assignment) → AllByRecursion (Agrees g stays t) (continue t)

-- a plan that covers an alternative makes it of its own assignments, of whose conjuncts only the late ones are looked at, as it is made
-- of the matches that lie in the alternative
abbrev pub MakesContinued : Graph → Pattern → Bound → (Assignment → List reading.Assignment) → (Marked → List (Result Row Fault)) → Typed → Type 0
MakesContinued g p bound continue later y =
    (q : Plan) → Covers g.catalog y q
    → IsPermutation
    (made_by g (late_conjuncts bound y) continue later (plan.meaning g y q))
    (made_by g bound.conjuncts continue later (filter (lies_in g y) (pattern_matches g p)))

abbrev pub EachPlanMakesContinued : Type 0
EachPlanMakesContinued =
    (g : Graph) (text : List ℕ) (p : Pattern) (stays : NamedExpr → Bool) (bound : Bound)
    (continue : Assignment → List reading.Assignment) (later : Marked → List (Result Row Fault))
    → IsTrue (is_valid g) → HasCores text g.catalog p stays bound → Continues g stays continue
    → All (MakesContinued g p bound continue later) bound.alternatives

-- and the alternatives together make it of all matches of the pattern
abbrev pub AlternativesPartContinued : Type 0
AlternativesPartContinued =
    (g : Graph) (text : List ℕ) (p : Pattern) (stays : NamedExpr → Bool) (bound : Bound)
    (continue : Assignment → List reading.Assignment) (later : Marked → List (Result Row Fault))
    → IsTrue (is_valid g) → HasCores text g.catalog p stays bound
    → IsPermutation
    (flat_map (λ y. made_by g bound.conjuncts continue later (filter (lies_in g y) (pattern_matches g p))) bound.alternatives)
    (made_by g bound.conjuncts continue later (pattern_matches g p))

-- ---- rows that trails make

-- the rows by which trails continue a match of the core
abbrev pub trail_rows : Graph → Pattern → List TrailPart → Assignment → List reading.Assignment
trail_rows g p parts t = map (λ (m : Trailing). plan.row m.row) (after_trails g (patterns_of p (begin_of t)) parts (begin_of t) [])

-- conjuncts that stay in the core mean for these rows what they mean for the match
abbrev pub TrailsContinue : Type 0
TrailsContinue =
    (g : Graph) (test : MapEntry → NamedExpr) (k : ℕ) (q : Trailed) → IsCored k q
    → Continues g (stays_in k) (trail_rows g q.pattern (trail_parts test q))

-- in a valid graph, where no trail is longer than 16, the core's matches, continued by trails, make what the matches of the query make
abbrev pub TrailsMakeMatches : Type 0
TrailsMakeMatches =
    (g : Graph) (test : MapEntry → NamedExpr) (k : ℕ) (q : Trailed) (conjuncts : List NamedExpr) (later : Marked → List (Result Row Fault))
    → is_valid g ≡ true → AreTests test → IsCored k q → AreShort q.trails
    → IsPermutation
    (made_by g conjuncts (trail_rows g q.pattern (trail_parts test q)) later (pattern_matches g (core_pattern k q.pattern)))
    (made_of g conjuncts later (map (λ (r : Reach). r.base) (reaches g q)))
