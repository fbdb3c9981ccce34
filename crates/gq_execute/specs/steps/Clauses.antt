-- The optional clauses of a query, of which the matches were listed.
use Rattle.std.specs.Prelude.{◌≡◌, ℕ, Bool, true, Option, List, map, flat_map}
use Rattle.std.specs.List.{AllZip, list_all, list_any}
use Rattle.gq_base.specs.Plain.{Graph}
use Rattle.gq_law_clauses.specs.Laws.{AreCovered, AreSameBags, lists_made}
use Rattle.gq_optional.specs.Spending.{Listing, spent_on_each}
use Rattle.gq_homes.specs.declared.spent.Spent.{Spent}
use Rattle.gq_plan.specs.Assignments.{Assignment}
use Rattle.gq_plan.specs.Covers.{Covers}
use Rattle.gq_plan.specs.Flat.{is_flat}
use Rattle.gq_plan.specs.Parts.{IsSide, sides}
use Rattle.gq_plan.specs.Plans.{Plan, plan_of}
use Rattle.gq_plan.specs.declared.bound.OptionalPart.{OptionalPart}
use Rattle.gq_plan.specs.declared.plan.Plan as code
use Rattle.gq_plan.specs.declared.typed.Typed.{Typed}
use Rattle.gq_execute.specs.Planned.{IsPlanIn, Means, sizes}
use Rattle.gq_execute.specs.Replies.{is_heavy_clause, parts_by}
use Rattle.gq_execute.specs.Spending.{IsSpentOnClause}
use Rattle.gq_execute.specs.declared.refusal.AnswerRefusal.{AnswerRefusal}
use Rattle.gq_execute.specs.declared.refusal.AnswerRefusal.TheVariants as refusal
use Rattle.gq_order.specs.declared.named.Order.{Order}

-- ---- plans

-- a plan of an alternative in an order: it covers the alternative, means its matches, and joins one side plan without joins for each part
pub record IsPlanned (order : Order) (g : Graph) (y : Typed) (p : Plan) : Type 0 where
  pub costs : List (Option ℕ)
  pub planned : IsPlanIn order g.catalog (sizes g) y p costs
  pub covers : Covers g.catalog y p
  pub means : Means g y p
  pub parts : AllZip (IsSide g.catalog y) (parts_by order y) (sides p)
  pub alone : list_all is_flat (sides p) ≡ true

-- the plans of the alternatives of a clause
pub record IsPlannedClause (order : Order) (g : Graph) (part : OptionalPart) (ps : List code.Plan) : Type 0 where
  pub each : AllZip (IsPlanned order g) part.alternatives (map plan_of ps)

-- ---- matches

-- the matches that were listed of optional clauses are what some covering plans make
pub record AreOfPlans (g : Graph) (parts : List OptionalPart) (lists : List (List Assignment)) : Type 0 where
  pub plans : List (List Plan)
  pub covers : AllZip (AreCovered g) parts plans
  pub same : AreSameBags lists (lists_made g parts plans)

-- what was spent on them
pub record AreSpentOn (g : Graph) (order : Order) (parts : List OptionalPart) (spent : List Spent) : Type 0 where
  pub listed : List (List Listing)
  pub each : AllZip (IsSpentOnClause g order) parts listed
  pub all : spent ≡ flat_map spent_on_each listed

-- some clause is heavy
abbrev pub some_heavy_clause : Graph → Order → ℕ → List OptionalPart → Bool
some_heavy_clause g order most parts = list_any (is_heavy_clause g order most) parts

-- why the matches are not listed; want of memory is free
abbrev pub RefusesClauses : Graph → Order → ℕ → List OptionalPart → AnswerRefusal → Type 0
RefusesClauses g order most parts (refusal.TooManyRows limit) = (limit ≡ most) × (some_heavy_clause g order most parts ≡ true)
RefusesClauses g order most parts (refusal.Fault fault) = ⊥
RefusesClauses g order most parts (refusal.Memory why) = Unit {0}
