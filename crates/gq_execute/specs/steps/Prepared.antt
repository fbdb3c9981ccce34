-- What is made before the first alternative whose turn comes, and why it is not.
use Rattle.std.specs.Prelude.{◌≡◌, ◌⊎◌, ℕ, true, List, [], ◌∷◌, length}
use Rattle.std.specs.List.{AllZip}
use Rattle.gq_base.specs.Plain.{Graph}
use Rattle.gq_drain.specs.Prepared.{IsPreparedFor}
use Rattle.gq_drain.specs.declared.prepared.Prepared.{Prepared}
use Rattle.gq_drain.specs.declared.testing.Test.{Test}
use Rattle.gq_plan.specs.declared.Bound.{Bound}
use Rattle.gq_plan.specs.declared.ExistsPart.{ExistsPart}
use Rattle.gq_plan.specs.declared.Typed.{Typed}
use Rattle.gq_execute.specs.Spending.{IsSpentOn}
use Rattle.gq_execute.specs.declared.refusal.AnswerRefusal.{AnswerRefusal}
use Rattle.gq_execute.specs.declared.refusal.AnswerRefusal.TheVariants as refusal
use Rattle.gq_order.specs.declared.named.Order.{Order}
use Rattle.gq_execute.specs.declared.settings.Settings.{Settings}
use Rattle.gq_execute.specs.steps.Clauses.{AreOfPlans, some_heavy_clause}
use Rattle.gq_execute.specs.steps.Testing.{AreTestsOf, SomeHasMany, spent_on}

-- how many node variables the first of some alternatives has
abbrev pub first_nodes : List Typed → ℕ
first_nodes [] = 0
first_nodes (y ∷ ys) = length y.nodes

-- it is prepared for a query over a graph, and its tests and the matches of its optional clauses are the query's
pub record IsPrepared (g : Graph) (most : ℕ) (b : Bound) (p : Prepared) : Type 0 where
  pub ready : IsPreparedFor g b p
  pub tests : AreTestsOf g most b.patterns p.tests.all
  pub first : p.optionals.held.shape.first ≡ first_nodes b.alternatives
  pub listed : AreOfPlans g b.optionals p.optionals.held.lists

-- what was spent on tests
abbrev pub AreSpentOnTests : Graph → Order → List ExistsPart → List Test → Type 0
AreSpentOnTests g order parts tests = AllZip (IsSpentOn g order) parts (spent_on tests)

-- why it is not made: a test has too many keys, or an optional clause is heavy; want of memory is free
abbrev pub RefusesBefore : Graph → Settings → Bound → AnswerRefusal → Type 0
RefusesBefore g settings b (refusal.TooManyRows limit) =
    (limit ≡ settings.rows) × (SomeHasMany g settings.rows b.patterns ⊎ (some_heavy_clause g settings.order settings.rows b.optionals ≡ true))
RefusesBefore g settings b (refusal.Fault fault) = ⊥
RefusesBefore g settings b (refusal.Memory why) = Unit {0}
