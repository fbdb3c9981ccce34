-- Conditions over the rows of an alternative over a graph.
use Rattle.std.specs.Prelude.{◌≡◌, Bool, List, map}
use Rattle.gq_base.specs.Plain.{Graph}
use Rattle.gq_plan.specs.Conditions.{passes}
use Rattle.gq_plan.specs.Rows.{as_read}
use Rattle.gq_plan.specs.declared.assignment.Assignment.{Assignment}
use Rattle.gq_plan.specs.declared.bound.NamedExpr.{NamedExpr}
use Rattle.gq_plan.specs.declared.typed.Typed.{Typed}

pub record RowCondition : Type 0 where
  pub graph : Graph
  pub typed : Typed
  pub condition : NamedExpr

abbrev pub condition_over : Graph → Typed → NamedExpr → RowCondition
condition_over g y t = record { graph = g; typed = y; condition = t }

-- whether a condition is true of rows and load numbers
abbrev pub is_true_of : RowCondition → Assignment → Bool
is_true_of c row = passes c.graph (as_read c.typed row) c.condition

-- the rows alone decide whether a condition is true
abbrev pub ReadsRows : RowCondition → Type 0
ReadsRows c = (old new : Assignment) → old.nodes ≡ new.nodes → is_true_of c old ≡ is_true_of c new

-- what an alternative asks of its rows
abbrev pub conditions_of : Graph → Typed → List RowCondition
conditions_of g y = map (condition_over g y) y.tests
