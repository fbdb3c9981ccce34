-- The costs of a plan are the last entries of its components' tables.
use Rattle.std.proofs.Common.{◌≡◌, ◌^◌, ◌-◌, ℕ, ◌&&◌, Option, Some, None, List, [], ◌∷◌, map, length, refl, ap, ap₂, ◌∙◌, arith}
use Rattle.std.specs.Prelude.{nat_eq, slice_index_or, IfOk, Result, Ok, Err}
use Rattle.std.specs.List.{AllZip}
use Rattle.std.proofs.lemmas.Bool.{and_parts}
use Rattle.std.proofs.lemmas.Bool.Decides.{nat_tests}
use Rattle.gq_base.specs.Catalogs.{Tables}
use Rattle.gq_least.specs.Components.{is_component}
use Rattle.gq_least.specs.Orders.{AreOrdered, IsOrdered, IsOrderedBy, pieces_of}
use Rattle.gq_least.specs.Sizes.{est, joined}
use Rattle.gq_least.specs.Tables.{fits_all}
use Rattle.gq_least.specs.declared.checking.CostTable.{CostTable}
use Rattle.gq_least.specs.declared.ordering.Chosen.{Chosen}
use Rattle.gq_least.specs.declared.ordering.ComponentOrder.{ComponentOrder}
use Rattle.gq_order.specs.Greedy.{numbers}
use Rattle.gq_order.specs.Orders.{plan_by}
use Rattle.gq_order.specs.declared.stats.Stats.{Stats}
use Rattle.gq_plan.specs.Plans.{plan_of}
use Rattle.gq_plan.specs.declared.typed.Typed.{Typed}
use Rattle.gq_execute.specs.Planned.{IsLeastPlan, cost_of, table_cost}
use Rattle.gq_execute.specs.declared.planning.Planned.{Planned}
use Rattle.gq_execute.specs.steps.Costing.{last_cost, last_in}

module _ (catalog : Tables) (y : Typed) (stats : Stats) where
  last_one : (c : ℕ) (order : List ℕ) (t : Option CostTable) → IsOrderedBy catalog y stats c order t → last_in t ≡ table_cost t
  last_one c order None is = refl
  last_one c order (Some t) is =
      let right = and_parts (is_component y t.nodes) (nat_eq (length t.costs) (2 ^ length t.nodes) && fits_all (joined y) (est catalog y stats) t.nodes t.costs) is.1.accepted in
      let sizes = and_parts (nat_eq (length t.costs) (2 ^ length t.nodes)) (fits_all (joined y) (est catalog y stats) t.nodes t.costs) right.1 in
      let same : length t.costs ≡ 2 ^ length t.nodes = grind (arith, nat_tests, sizes.0) in
      ap (λ n. slice_index_or t.costs (n - 1) None) same

  last_each : (cs : List ℕ) (os : List ComponentOrder) → AllZip (IsOrdered catalog y stats) cs os → map last_cost os ≡ map cost_of os
  last_each [] [] are = refl
  last_each [] (o ∷ os) are = absurd are
  last_each (c ∷ cs) [] are = absurd are
  last_each (c ∷ cs) (o ∷ os) are = ap₂ (λ d ds. d ∷ ds) (last_one c o.order o.table are.0) (last_each cs os are.1)

  pub last_costs : (os : List ComponentOrder) → AreOrdered catalog y stats os → map last_cost os ≡ map cost_of os
  last_costs os are = last_each (numbers y) os are

  -- what is made of the plan of least cost is one
  pub costed_plan : {E : Type 0} (chosen : Chosen) (r : Result Planned E) → IfOk r (λ p. p.plan ≡ chosen.plan) → IfOk r (λ p. p.costs ≡ map last_cost chosen.orders)
      → plan_of chosen.plan ≡ plan_by catalog y (pieces_of y chosen.orders) → AreOrdered catalog y stats chosen.orders → IfOk r (λ p. IsLeastPlan catalog stats y (plan_of p.plan) p.costs)
  costed_plan chosen (Ok p) plan costs is least = record { orders = chosen.orders; least = least; plan = ap plan_of plan ∙ is; costs_are = costs ∙ last_costs chosen.orders least }
  costed_plan chosen (Err e) plan costs is least = tt
