-- How far a query is answered, alternative by alternative.
use Rattle.std.specs.Prelude.{◌≡◌, ◌⊎◌, ◌≤◌, ◌+◌, ℕ, length, take, true, false, Some, Result, Ok, Err, List, [], ◌∷◌, ◌++◌, flat_map, slice_get}
use Rattle.std.specs.List.{AllZip}
use Rattle.std.specs.List.Sorted.{IsPermutation}
use Rattle.gq_bound.specs.Binding.{IsBound}
use Rattle.gq_expr.specs.declared.Fault.{Fault}
use Rattle.gq_pipe.specs.Spending.{up_to_most}
use Rattle.gq_homes.specs.declared.spent.Spent.{Spent}
use Rattle.gq_plan.specs.Covers.{Covers}
use Rattle.gq_plan.specs.Meaning.{meaning}
use Rattle.gq_plan.specs.Outcomes.{Row}
use Rattle.gq_plan.specs.Plans.{Plan}
use Rattle.gq_plan.specs.declared.Bound.{Bound}
use Rattle.gq_plan.specs.declared.Typed.{Typed}
use Rattle.gq_kept.specs.Tables.{StandsFor, Table, is_full_table}
use Rattle.gq_ast.specs.declared.Query.{Query}
use Rattle.gq_base.specs.Plain.{Graph}
use Rattle.gq_execute.specs.Answering.{question, RepliesToEach}
use Rattle.gq_execute.specs.Replies.{Question, all_outcomes, has_heavy_clause, has_heavy_test, has_large_part, outcomes_in, some_heavy}
use Rattle.gq_drain.specs.Taking.{IsPlain, MeetsFault, MeetsMany, Takes}
use Rattle.gq_execute.specs.Spending.{IsSpentOn, IsSpentOnClause, IsTurn, Turn, clauses_made, own_chunks, spent_in, tests_made, with_turns}
use Rattle.gq_optional.specs.Spending.{Listing, spent_on_each}
use Rattle.gq_drain.specs.Becoming.{Becomes, outcomes_by}
use Rattle.gq_execute.specs.declared.refusal.AnswerRefusal.{AnswerRefusal}
use Rattle.gq_execute.specs.declared.refusal.AnswerRefusal.TheVariants as refusal
use Rattle.gq_order.specs.declared.named.Order.{Order}
use Rattle.gq_execute.specs.declared.settings.Settings.{Settings}

-- the outcomes of the matches that lie in the alternatives are together those of all matches
abbrev pub AreParted : Question → Type 0
AreParted a = IsPermutation (flat_map (outcomes_in a) a.bound.alternatives) (all_outcomes a)

-- each plan that covers an alternative makes the outcomes of those that lie in it, where this becomes of assignments
abbrev pub MakeOutcomes : Question → Becomes → Type 0
MakeOutcomes a becomes =
    (k : ℕ) (y : Typed) → slice_get a.bound.alternatives k ≡ Some y → (p : Plan) → Covers a.graph.catalog y p
    → IsPermutation (outcomes_by becomes a.graph a.bound y (meaning a.graph y p)) (outcomes_in a y)

-- these alternatives were begun, since their turn came: the outcomes in them are those that were pushed and those that are
-- left, and none is heavy
pub record Reached (a : Question) (begun : List Typed) (pushed left : List (Result Row Fault)) : Type 0 where
  pub as_a_bag : IsPermutation (flat_map (outcomes_in a) begun) (pushed ++ left)
  pub light : some_heavy a 0 begun ≡ false
  pub turned : with_turns a 0 begun ≡ begun

-- the table stands for what was pushed of them; all was pushed, or the table is full
pub record Came (a : Question) (begun : List Typed) (table : Table) : Type 0 where
  pub pushed : List (Result Row Fault)
  pub left : List (Result Row Fault)
  pub at : Reached a begun pushed left
  pub bound : table.bound ≡ a.bound
  pub most : table.most ≡ a.most
  pub stands : StandsFor a.bound a.most pushed table.held
  pub done : (is_full_table table ≡ true) ⊎ (left ≡ [])

-- an alternative has no large part, and its plan, which covers it, makes outcomes that meet a property
pub record Runs (becomes : Becomes) (g : Graph) (b : Bound) (order : Order) (most : ℕ) (y : Typed) (Meets : List (Result Row Fault) → Type 0) : Type 0 where
  pub plan : Plan
  pub covers : Covers g.catalog y plan
  pub light : has_large_part g order most y ≡ false
  pub meets : Meets (outcomes_by becomes g b y (meaning g y plan))

-- how the turn of an alternative ends: its outcomes went into the table, or one of them or a large part stopped it
abbrev pub Drains : Becomes → Graph → Bound → Order → Typed → Table → Table → Result (List Spent) AnswerRefusal → Type 0
Drains becomes g b order y old new (Ok _) = Runs becomes g b order old.most y (λ os. Takes os old new)
Drains becomes g b order y old new (Err (refusal.Fault f)) = Runs becomes g b order old.most y (λ os. MeetsFault os old f)
Drains becomes g b order y old new (Err (refusal.TooManyRows most)) =
    (most ≡ old.most) × ((has_large_part g order old.most y ≡ true) ⊎ Runs becomes g b order old.most y (λ os. MeetsMany os old))
Drains becomes g b order y old new (Err (refusal.Memory why)) = Unit {0}

-- what was spent in the turn of an alternative, whose chunks the table counted where the query is plain
pub record SpendsTurn (g : Graph) (order : Order) (y : Typed) (old new : Table) (spent : List Spent) : Type 0 where
  pub turn : Turn
  pub is : IsTurn g old.bound order y turn
  pub all : spent ≡ turn.sides ++ turn.own ∷ []
  pub chunks : IsPlain old.bound → (before : ℕ) → old.pushed ≡ up_to_most before → new.pushed ≡ up_to_most (before + turn.own.chunks)

-- what was spent in the turns of these alternatives
pub record Spends (g : Graph) (b : Bound) (order : Order) (ys : List Typed) (table : Table) (spent : List Spent) : Type 0 where
  pub turns : List Turn
  pub each : AllZip (IsTurn g b order) ys turns
  pub all : spent ≡ spent_in turns
  pub chunks : IsPlain b → table.pushed ≡ up_to_most (own_chunks turns)

-- an empty table for a query
pub record IsFresh (b : Bound) (settings : Settings) (table : Table) : Type 0 where
  pub bound : table.bound ≡ b
  pub most : table.most ≡ settings.rows
  pub none : StandsFor b settings.rows [] table.held
  pub pushed : table.pushed ≡ 0

-- the turns of so many alternatives were taken: of all, or of as many as filled the table
pub record Filled (a : Question) (turns : ℕ) (table : Table) : Type 0 where
  pub came : Came a (take turns a.bound.alternatives) table
  pub done : (is_full_table table ≡ true) ⊎ (length a.bound.alternatives ≤ turns)

-- how the turns end, for each query that is bound so, and what was spent in them
pub record FillsWith (g : Graph) (bound : Bound) (settings : Settings) (table : Table) (spent : List Spent) : Type 0 where
  pub turns : ℕ
  pub spends : Spends g bound settings.order (take turns bound.alternatives) table spent
  pub filled : (query : Query) (text : List ℕ) → IsBound query text g.catalog bound
      → Filled (question g query bound settings) turns table

abbrev pub Fills : Graph → Bound → Settings → Table → Result (List Spent) AnswerRefusal → Type 0
Fills g bound settings table (Ok spent) = FillsWith g bound settings table spent
Fills g bound settings table (Err refused) = RepliesToEach g bound settings (Err refused)

-- what was spent in the turns, and before them on the tests and on the optional clauses, of which none has too many keys or matches
pub record AnswersWith (g : Graph) (bound : Bound) (settings : Settings) (table : Table) (spent : List Spent) : Type 0 where
  pub tested : List (List Spent)
  pub on_tests : (query : Query) (text : List ℕ) → IsBound query text g.catalog bound
      → AllZip (IsSpentOn g settings.order) (tests_made (question g query bound settings)) tested
  pub listed : List (List Listing)
  pub on_clauses : (query : Query) (text : List ℕ) → IsBound query text g.catalog bound
      → AllZip (IsSpentOnClause g settings.order) (clauses_made (question g query bound settings)) listed
  pub own : List Spent
  pub fills : FillsWith g bound settings table own
  pub all : spent ≡ flat_map (λ s. s) tested ++ (flat_map spent_on_each listed ++ own)
  pub light : (query : Query) (text : List ℕ) → IsBound query text g.catalog bound
      → has_heavy_test (question g query bound settings) ≡ false
  pub light_clauses : (query : Query) (text : List ℕ) → IsBound query text g.catalog bound
      → has_heavy_clause (question g query bound settings) ≡ false

abbrev pub AnswersAll : Graph → Bound → Settings → Table → Result (List Spent) AnswerRefusal → Type 0
AnswersAll g bound settings table (Ok spent) = AnswersWith g bound settings table spent
AnswersAll g bound settings table (Err refused) = RepliesToEach g bound settings (Err refused)
