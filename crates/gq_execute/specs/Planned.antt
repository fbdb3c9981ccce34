-- Which plans the alternatives of a query have over a graph, and what they cost (this project's profile).
use Rattle.std.specs.Prelude.{◌≡◌, ℕ, Option, Some, None, List, [], ◌∷◌, map, length}
use Rattle.std.specs.List.Sorted.{IsPermutation}
use Rattle.std.specs.List.{range_with_len}
use Rattle.gq_base.specs.Catalogs.{Tables}
use Rattle.gq_base.specs.Plain.{Graph, rels_at}
use Rattle.gq_base.specs.Valid.{row_count}
use Rattle.gq_least.specs.Orders.{AreOrdered, last_entry, pieces_of}
use Rattle.gq_least.specs.declared.checking.CostTable.{CostTable}
use Rattle.gq_least.specs.declared.ordering.ComponentOrder.{ComponentOrder}
use Rattle.gq_order.specs.Given.{given_plan}
use Rattle.gq_order.specs.Greedy.{greedy_plan}
use Rattle.gq_order.specs.Orders.{plan_by}
use Rattle.gq_order.specs.declared.stats.Stats.{Stats}
use Rattle.gq_law_answers.specs.Answered.{allowed}
use Rattle.gq_plan.specs.Meaning.{meaning}
use Rattle.gq_plan.specs.Plans.{Plan}
use Rattle.gq_plan.specs.declared.typed.Typed.{Typed}
use Rattle.gq_order.specs.declared.named.Order.{Order}
use Rattle.gq_order.specs.declared.named.Order.TheVariants as order

-- how many rows the tables of a graph have
abbrev pub sizes : Graph → Stats
sizes g = record {
  nodes = map (row_count g.nodes) (range_with_len 0 (length g.catalog.nodes));
  rels = map (λ table. length (rels_at g table)) (range_with_len 0 (length g.catalog.rels));
}

-- the cost of a component's order: the last entry of its cost table, if it has one
abbrev pub table_cost : Option CostTable → Option ℕ
table_cost None = None
table_cost (Some t) = last_entry t

abbrev pub cost_of : ComponentOrder → Option ℕ
cost_of o = table_cost o.table

-- a plan takes the components of an alternative one by one, each in an order of least cost; these are the costs
pub record IsLeastPlan (catalog : Tables) (stats : Stats) (y : Typed) (p : Plan) (costs : List (Option ℕ)) : Type 0 where
  pub orders : List ComponentOrder
  pub least : AreOrdered catalog y stats orders
  pub plan : p ≡ plan_by catalog y (pieces_of y orders)
  pub costs_are : costs ≡ map cost_of orders

-- the plan of an alternative in an order, and its costs, which it has in the order of least cost alone
abbrev pub IsPlanIn : Order → Tables → Stats → Typed → Plan → List (Option ℕ) → Type 0
IsPlanIn order.Given catalog stats y p costs = (p ≡ given_plan catalog y) × (costs ≡ [])
IsPlanIn order.Greedy catalog stats y p costs = (p ≡ greedy_plan catalog y stats) × (costs ≡ [])
IsPlanIn order.Least catalog stats y p costs = IsLeastPlan catalog stats y p costs

-- a plan means, as a bag, the matches of an alternative that make its tests true and its pairs of relationships different
abbrev pub Means : Graph → Typed → Plan → Type 0
Means g y p = IsPermutation (meaning g y p) (allowed g y)

-- the plan of each alternative, by the sizes of the graph's tables, and its costs
abbrev pub ArePlansIn : Order → Graph → List Typed → List Plan → List (List (Option ℕ)) → Type 0
ArePlansIn order g [] [] [] = Unit {0}
ArePlansIn order g (y ∷ ys) (p ∷ ps) (costs ∷ more) = IsPlanIn order g.catalog (sizes g) y p costs × ArePlansIn order g ys ps more
ArePlansIn order g ys ps costs = ⊥
