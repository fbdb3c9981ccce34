-- Plans as their meaning goes by them: a list of steps, in which column steps are list steps with a mark.
use Rattle.std.specs.Prelude.{ℕ, Bool, true, false, List, [], ◌∷◌}
use Rattle.gq_base.specs.declared.direction.Direction.{Direction}
use Rattle.gq_plan.specs.declared.plan.Plan as code_plan
use Rattle.gq_plan.specs.declared.plan.Step as code
use Rattle.gq_plan.specs.declared.plan.Step.TheOpen as layer

mutual
  pub data Plan : Type 0 where
    Done : Plan
    Then : Step → Plan → Plan

  pub data Step : Type 0 where
    Scan : (node : ℕ) → Step
    Extend : (column : Bool) (rel from to : ℕ) → Direction → Step
    Close : (column : Bool) (rel from to : ℕ) → Direction → Step
    Join : (side : Plan) (keys : List ℕ) → Step
    Keep : (test : ℕ) → Step
    Differ : (pair : ℕ) → Step
    NoLoop : (rel : ℕ) → Step
    -- the halves in which a column close runs, and which no plan of the program has: the relationship of the source, and whether it leads to
    -- the target
    Single : (rel from to : ℕ) → Direction → Step
    Meet : (rel from to : ℕ) → Direction → Step

-- steps one after another
abbrev pub steps : List Step → Plan
steps [] = Done
steps (s ∷ ss) = Then s (steps ss)

-- a step, with the plain plan in the place of its side plan
abbrev pub step_layer : layer.Step-F Step Plan → Step
step_layer (layer.Scan v) = Scan v
step_layer (layer.Extend x from to direction) = Extend false x from to direction
step_layer (layer.ColumnExtend x from to direction) = Extend true x from to direction
step_layer (layer.Close x from to direction) = Close false x from to direction
step_layer (layer.ColumnClose x from to direction) = Close true x from to direction
step_layer (layer.Join side keys) = Join side keys
step_layer (layer.Keep i) = Keep i
step_layer (layer.Differ p) = Differ p
step_layer (layer.NoLoop x) = NoLoop x

abbrev pub plan_layer : layer.Plan-F Step Plan → Plan
plan_layer p = steps p.steps

-- a plan of the program, and a step of one
unfoldable pub plan_of : code_plan.Plan → Plan
plan_of = code_plan.fold-Plan Step Plan step_layer plan_layer

unfoldable pub step_of : code.Step → Step
step_of = code.fold-Step Step Plan step_layer plan_layer
