-- What the pipelines spend that answer a query (this project's profile).
use Rattle.std.specs.Prelude.{◌≡◌, ℕ, ◌+◌, Option, None, Result, Ok, Err, List, [], ◌∷◌, ◌++◌, flat_map, length, sum_by, if◌then◌else◌}
use Rattle.std.specs.List.{AllZip}
use Rattle.gq_base.specs.Plain.{Graph}
use Rattle.gq_bound.specs.Binding.{IsBound}
use Rattle.gq_drain.specs.Taking.{IsPlain}
use Rattle.gq_exists.specs.Spending.{HasSpentEach}
use Rattle.gq_optional.specs.Spending.{Listing, spent_on_each}
use Rattle.gq_pipe.specs.Spending.{HasOneEach, HasSpent, HasSpentAll, up_to_most}
use Rattle.gq_homes.specs.declared.spent.Spent.{Spent}
use Rattle.gq_plan.specs.Covers.{Covers}
use Rattle.gq_plan.specs.Parts.{sides}
use Rattle.gq_plan.specs.Plans.{Plan}
use Rattle.gq_plan.specs.declared.Bound.{Bound}
use Rattle.gq_plan.specs.declared.ExistsPart.{ExistsPart}
use Rattle.gq_plan.specs.declared.bound.OptionalPart.{OptionalPart}
use Rattle.gq_plan.specs.declared.Typed.{Typed}
use Rattle.gq_kept.specs.Answers.{cut_of, rows_in}
use Rattle.gq_ast.specs.declared.Query.{Query}
use Rattle.gq_execute.specs.Answering.{question}
use Rattle.gq_execute.specs.Planned.{ArePlansIn, IsPlanIn, Means, sizes}
use Rattle.gq_execute.specs.Replies.{Question, has_turn, has_turns, outcomes_in}
use Rattle.gq_execute.specs.declared.found.Answer.{Answer}
use Rattle.gq_execute.specs.declared.refusal.AnswerRefusal.{AnswerRefusal}
use Rattle.gq_order.specs.declared.named.Order.{Order}
use Rattle.gq_execute.specs.declared.settings.Settings.{Settings}

-- the alternatives whose turn comes, where so many rows stand before them
abbrev pub with_turns : Question → ℕ → List Typed → List Typed
with_turns a before [] = []
with_turns a before (y ∷ ys) =
    let later = with_turns a (before + length (rows_in (outcomes_in a y))) ys in
    if has_turn (cut_of a.bound) before then y ∷ later else later

-- what the pipelines of an alternative spent: those of its side plans, in the order of the joins, and its own
pub record Turn : Type 0 where
  pub sides : List Spent
  pub own : Spent

-- the same one after another
abbrev pub spent_in : List Turn → List Spent
spent_in turns = flat_map (λ (t : Turn). t.sides ++ t.own ∷ []) turns

-- the chunks of the alternatives' own pipelines
abbrev pub own_chunks : List Turn → ℕ
own_chunks turns = sum_by (λ (t : Turn). t.own.chunks) turns

-- the plan of an alternative, which covers it and means all of its matches, and what its pipelines spent; its own hands out all
-- where all outcomes are looked at
pub record IsTurn (g : Graph) (b : Bound) (order : Order) (y : Typed) (t : Turn) : Type 0 where
  pub plan : Plan
  pub costs : List (Option ℕ)
  pub planned : IsPlanIn order g.catalog (sizes g) y plan costs
  pub covers : Covers g.catalog y plan
  pub means : Means g y plan
  pub sides : AllZip (HasSpentAll g y) (sides plan) t.sides
  pub own : HasSpent g y plan t.own
  pub one_each : cut_of b ≡ None → HasOneEach g y plan t.own

-- what was spent on a test of a path: on pipelines of the plans of the path's alternatives, which cover them and mean their matches
pub record IsSpentOn (g : Graph) (order : Order) (part : ExistsPart) (spent : List Spent) : Type 0 where
  pub plans : List Plan
  pub costs : List (List (Option ℕ))
  pub planned : ArePlansIn order g part.alternatives plans costs
  pub covers : AllZip (Covers g.catalog) part.alternatives plans
  pub mean : AllZip (Means g) part.alternatives plans
  pub each : HasSpentEach (length part.nodes) g part.alternatives plans spent

-- the tests that are made: all of them, where some alternative's turn comes
abbrev pub tests_made : Question → List ExistsPart
tests_made a = if has_turns a then a.bound.patterns else []

-- what was spent to list the matches of an alternative of an optional clause: on pipelines of its plan, which covers it and means
-- them; those of the side plans and its own all hand out all
pub record IsSpentOnListing (g : Graph) (order : Order) (y : Typed) (l : Listing) : Type 0 where
  pub plan : Plan
  pub costs : List (Option ℕ)
  pub planned : IsPlanIn order g.catalog (sizes g) y plan costs
  pub covers : Covers g.catalog y plan
  pub means : Means g y plan
  pub sides : AllZip (HasSpentAll g y) (sides plan) l.sides
  pub own : HasSpentAll g y plan l.own

-- what was spent on an optional clause, alternative by alternative
abbrev pub IsSpentOnClause : Graph → Order → OptionalPart → List Listing → Type 0
IsSpentOnClause g order part listings = AllZip (IsSpentOnListing g order) part.alternatives listings

-- the optional clauses whose matches are listed: all of them, where some alternative's turn comes
abbrev pub clauses_made : Question → List OptionalPart
clauses_made a = if has_turns a then a.bound.optionals else []

-- what all pipelines spent: those of the tests of paths, behind them those of the optional clauses, clause by clause, and behind
-- these those of the alternatives whose turn comes; where a query is plain, the chunks with a row that were pushed are those of the
-- alternatives' own pipelines
pub record AreSpent (a : Question) (spent : List Spent) (pushed : ℕ) : Type 0 where
  pub tested : List (List Spent)
  pub on_tests : AllZip (IsSpentOn a.graph a.order) (tests_made a) tested
  pub listed : List (List Listing)
  pub on_clauses : AllZip (IsSpentOnClause a.graph a.order) (clauses_made a) listed
  pub turns : List Turn
  pub each : AllZip (IsTurn a.graph a.bound a.order) (with_turns a 0 a.bound.alternatives) turns
  pub all : spent ≡ flat_map (λ s. s) tested ++ (flat_map spent_on_each listed ++ spent_in turns)
  pub chunks : IsPlain a.bound → pushed ≡ up_to_most (own_chunks turns)

-- the same for each query that is bound so
abbrev pub SpendsToEach : Graph → Bound → Settings → Result Answer AnswerRefusal → Type 0
SpendsToEach g bound settings (Ok found) =
    (query : Query) (text : List ℕ) → IsBound query text g.catalog bound
    → AreSpent (question g query bound settings) found.spent found.listing.pushed
SpendsToEach g bound settings (Err refused) = Unit {0}
