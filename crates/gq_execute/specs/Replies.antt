-- Which replies to a query are permitted (openCypher 9 for the rows, whose order it leaves open without ORDER BY; faults,
-- too many rows, the core of a query with trails and the parts of a pattern are this project's profile).
use Rattle.std.specs.Prelude.{◌≡◌, ℕ, ◌+◌, nat_lt, Bool, true, false, not, ◌&&◌, ◌||◌, Option, Some, None, List, [], ◌∷◌, filter, length, map, Result, Err}
use Rattle.std.specs.List.{Contains, list_any}
use Rattle.std.specs.List.Sorted.{IsPermutation}
use Rattle.gq_base.specs.Plain.{Graph}
use Rattle.gq_base.specs.Lists.{is_empty}
use Rattle.gq_base.specs.Values.{Val}
use Rattle.gq_base.specs.declared.NodeId.{NodeId}
use Rattle.gq_alternatives.specs.Matches.{pattern_matches}
use Rattle.gq_bound.specs.Optionals.{clause_matches, known_first}
use Rattle.gq_bound.specs.Tested.{ScopedTest, tests, where_met}
use Rattle.gq_drain.specs.Becoming.{outcomes_behind}
use Rattle.gq_expr.specs.Reading as reading
use Rattle.gq_expr.specs.declared.Fault.{Fault}
use Rattle.gq_law_answers.specs.Answered.{allowed}
use Rattle.gq_law_cores.specs.Made.{made_by, trail_rows}
use Rattle.gq_law_cores.specs.Whole.{trail_matches}
use Rattle.gq_law_cuts.specs.Cuts.{cored_of}
use Rattle.gq_law_cuts.specs.Shaped.{core_pattern_of}
use Rattle.gq_plan.specs.Allowed.{lies_in}
use Rattle.gq_plan.specs.Keys.{different, key_of}
use Rattle.gq_plan.specs.Assignments.{Assignment}
use Rattle.gq_plan.specs.Marked.{Marked, made_of}
use Rattle.gq_plan.specs.Outcomes.{Row}
use Rattle.gq_plan.specs.Parts.{Part, given_parts, greedy_parts, part_assignments}
use Rattle.gq_plan.specs.declared.Bound.{Bound}
use Rattle.gq_plan.specs.declared.ExistsPart.{ExistsPart}
use Rattle.gq_plan.specs.declared.bound.OptionalPart.{OptionalPart}
use Rattle.gq_plan.specs.declared.Typed.{Typed}
use Rattle.gq_scopes.specs.PathPatterns.{path_pattern}
use Rattle.gq_kept.specs.Answers.{Answers, cut_of, kept, looked_at, rows_in}
use Rattle.gq_ast.specs.declared.Query.{Query}
use Rattle.gq_order.specs.declared.named.Order.{Order}
use Rattle.gq_order.specs.declared.named.Order.TheVariants as order

-- what is asked: a query over a graph, what it is bound to, the order of the plans, and the most rows that may be kept
pub record Question : Type 0 where
  pub graph : Graph
  pub query : Query
  pub bound : Bound
  pub order : Order
  pub most : ℕ

-- the parts of an alternative, which are joined: paths that begin apart from those before, or connected components
abbrev pub parts_by : Order → Typed → List Part
parts_by order.Given y = given_parts y
parts_by order.Greedy y = greedy_parts y
parts_by order.Least y = greedy_parts y

-- the tests of paths among the conditions of a query (what they are called plays no part)
abbrev pub tests_of : Query → List ScopedTest
tests_of query = tests [] query

-- those behind the optional clauses of a query, each with its own matches
abbrev pub behind_optionals : Question → Marked → List (Result Row Fault)
behind_optionals a = outcomes_behind a.graph a.bound (known_first a.query) (map (clause_matches a.graph) a.query.optionals)

-- what becomes of a row that the other conjuncts leave: its outcomes, where all tests are true of it
abbrev pub later_of : Question → Marked → List (Result Row Fault)
later_of a = where_met a.graph (tests_of a.query) a.bound.patterns (behind_optionals a)

-- the outcomes of all matches; without trails these are the matches of the patterns (PlainTrailMatches)
abbrev pub all_outcomes : Question → List (Result Row Fault)
all_outcomes a = made_of a.graph a.bound.conjuncts (later_of a) (trail_matches a.graph a.query.clauses)

-- the rows by which the trails of a query continue a match of its core; without trails its own row alone
abbrev pub rows_of : Question → Assignment → List reading.Assignment
rows_of a = trail_rows a.graph (cored_of a.query.clauses).pattern a.bound.trails

-- the matches of the core that lie in an alternative; without trails all patterns are the core (PlainCuts)
abbrev pub cores_in : Question → Typed → List Assignment
cores_in a y = filter (lies_in a.graph y) (pattern_matches a.graph (core_pattern_of a.query.clauses))

-- the outcomes of the matches that continue these
abbrev pub outcomes_in : Question → Typed → List (Result Row Fault)
outcomes_in a y = made_by a.graph a.bound.conjuncts (rows_of a) (later_of a) (cores_in a y)

-- an alternative's turn comes while those before it have fewer rows than are looked at
abbrev pub has_turn : Option ℕ → ℕ → Bool
has_turn None before = true
has_turn (Some n) before = nat_lt before n

-- some part of an alternative has more assignments than this
unfoldable pub has_large_part : Graph → Order → ℕ → Typed → Bool
has_large_part g order most y =
    list_any (λ p. nat_lt most (length (part_assignments g y p))) (parts_by order y)

-- this is so of an alternative whose turn comes, where so many rows stand before them
abbrev pub some_heavy : Question → ℕ → List Typed → Bool
some_heavy a before [] = false
some_heavy a before (y ∷ ys) =
    (has_turn (cut_of a.bound) before && has_large_part a.graph a.order a.most y)
    || some_heavy a (before + length (rows_in (outcomes_in a y))) ys

-- some alternative's turn comes: that of the first
abbrev pub has_turns : Question → Bool
has_turns a = has_turn (cut_of a.bound) 0 && not (is_empty a.bound.alternatives)

-- the nodes that the matches of a test's path have at the variables which it shares with the query
abbrev pub shared_nodes : Graph → ScopedTest → ExistsPart → List (List NodeId)
shared_nodes g t part = map (key_of (length part.nodes)) (pattern_matches g (path_pattern t.test.path))

-- more of them differ than this
unfoldable pub has_many_keys : Graph → ℕ → ScopedTest → ExistsPart → Bool
has_many_keys g most t part = nat_lt most (length (different [] (shared_nodes g t part)))

-- this is so of some test
abbrev pub some_many_keys : Graph → ℕ → List ScopedTest → List ExistsPart → Bool
some_many_keys g most [] parts = false
some_many_keys g most (t ∷ ts) [] = false
some_many_keys g most (t ∷ ts) (part ∷ parts) = has_many_keys g most t part || some_many_keys g most ts parts

-- the matches of some test's path have too many, where some alternative's turn comes
abbrev pub has_heavy_test : Question → Bool
has_heavy_test a = has_turns a && some_many_keys a.graph a.most (tests_of a.query) a.bound.patterns

-- an alternative of an optional clause has more matches than this, or some part of it more assignments
abbrev pub is_heavy_in : Graph → Order → ℕ → Typed → Bool
is_heavy_in g order most y = nat_lt most (length (allowed g y)) || has_large_part g order most y

-- some alternative of a clause does
unfoldable pub is_heavy_clause : Graph → Order → ℕ → OptionalPart → Bool
is_heavy_clause g order most part = list_any (is_heavy_in g order most) part.alternatives

-- this is so of some optional clause, where some alternative's turn comes
abbrev pub has_heavy_clause : Question → Bool
has_heavy_clause a = has_turns a && list_any (is_heavy_clause a.graph a.order a.most) a.bound.optionals

-- too many rows are kept of a listing, or a part has too many assignments, or a test's path too many shared nodes, or an optional
-- clause too many matches
abbrev pub is_too_many : Question → List (Result Row Fault) → Bool
is_too_many a listing =
    nat_lt a.most (kept a.bound (rows_in listing))
    || (some_heavy a 0 a.bound.alternatives || (has_heavy_test a || has_heavy_clause a))

-- the lines of an answer, each with the values of its columns; or why there are none
pub data Reply : Type 0 where
  Rows : List (List Val) → Reply
  Faulted : Fault → Reply
  TooManyRows : Reply

-- a listing permits a reply: a fault that is looked at; too many rows where that has its cause; else rows, where no outcome
-- that is looked at is a fault
abbrev pub Permits : Question → List (Result Row Fault) → Reply → Type 0
Permits a listing (Faulted f) = Contains (looked_at a.bound listing) (Err f)
Permits a listing TooManyRows = is_too_many a listing ≡ true
Permits a listing (Rows lines) = (is_too_many a listing ≡ false) × Answers a.bound listing lines

-- a reply is permitted where some listing of the outcomes permits it
pub record IsPermitted (a : Question) (reply : Reply) : Type 0 where
  pub listing : List (Result Row Fault)
  pub as_a_bag : IsPermutation (all_outcomes a) listing
  pub permits : Permits a listing reply
