-- The plain step of each step of the program, and the plain plan of its steps.
use Rattle.std.proofs.Common.{◌≡◌, ◌∙◌, ap, sym, refl, ℕ, true, false, List, map}
use Rattle.gq_base.specs.declared.direction.Direction.{Direction}
use Rattle.gq_plan.specs.Plans.{Plan, Step, Scan, Extend, Close, Join, Keep, Differ, NoLoop, steps, step_layer, plan_layer, plan_of, step_of}
use Rattle.gq_plan.specs.declared.plan.Plan as code_plan
use Rattle.gq_plan.specs.declared.plan.Step as code
use Rattle.gq_plan.specs.declared.plan.Step.TheOpen as layer
use Rattle.gq_plan.specs.declared.plan.Step.TheVariants.{rolls-Scan, rolls-Extend, rolls-ColumnExtend, rolls-Close, rolls-ColumnClose, rolls-Join, rolls-Keep, rolls-Differ, rolls-NoLoop}

pub plan_is : (p : code_plan.Plan) → plan_of p ≡ steps (map step_of p.steps)
unfolding step_of plan_of
plan_is p = code_plan.fold_out-Plan Step Plan step_layer plan_layer p ∙ refl

pub scan_is : (v : ℕ) → step_of (code.Scan v) ≡ Scan v
unfolding step_of
scan_is v = ap (code.fold-Step Step Plan step_layer plan_layer) (sym (rolls-Scan v)) ∙ code.fold-roll-Step Step Plan step_layer plan_layer (layer.Scan v)

pub extend_is : (x from to : ℕ) (way : Direction) → step_of (code.Extend x from to way) ≡ Extend false x from to way
unfolding step_of
extend_is x from to way = ap (code.fold-Step Step Plan step_layer plan_layer) (sym (rolls-Extend x from to way)) ∙ code.fold-roll-Step Step Plan step_layer plan_layer (layer.Extend x from to way)

pub column_extend_is : (x from to : ℕ) (way : Direction) → step_of (code.ColumnExtend x from to way) ≡ Extend true x from to way
unfolding step_of
column_extend_is x from to way = ap (code.fold-Step Step Plan step_layer plan_layer) (sym (rolls-ColumnExtend x from to way)) ∙ code.fold-roll-Step Step Plan step_layer plan_layer (layer.ColumnExtend x from to way)

pub close_is : (x from to : ℕ) (way : Direction) → step_of (code.Close x from to way) ≡ Close false x from to way
unfolding step_of
close_is x from to way = ap (code.fold-Step Step Plan step_layer plan_layer) (sym (rolls-Close x from to way)) ∙ code.fold-roll-Step Step Plan step_layer plan_layer (layer.Close x from to way)

pub column_close_is : (x from to : ℕ) (way : Direction) → step_of (code.ColumnClose x from to way) ≡ Close true x from to way
unfolding step_of
column_close_is x from to way = ap (code.fold-Step Step Plan step_layer plan_layer) (sym (rolls-ColumnClose x from to way)) ∙ code.fold-roll-Step Step Plan step_layer plan_layer (layer.ColumnClose x from to way)

pub join_is : (side : code_plan.Plan) (keys : List ℕ) → step_of (code.Join side keys) ≡ Join (plan_of side) keys
unfolding step_of plan_of
join_is side keys = ap (code.fold-Step Step Plan step_layer plan_layer) (sym (rolls-Join side keys)) ∙ code.fold-roll-Step Step Plan step_layer plan_layer (layer.Join side keys)

pub keep_is : (i : ℕ) → step_of (code.Keep i) ≡ Keep i
unfolding step_of
keep_is i = ap (code.fold-Step Step Plan step_layer plan_layer) (sym (rolls-Keep i)) ∙ code.fold-roll-Step Step Plan step_layer plan_layer (layer.Keep i)

pub differ_is : (p : ℕ) → step_of (code.Differ p) ≡ Differ p
unfolding step_of
differ_is p = ap (code.fold-Step Step Plan step_layer plan_layer) (sym (rolls-Differ p)) ∙ code.fold-roll-Step Step Plan step_layer plan_layer (layer.Differ p)

pub no_loop_is : (x : ℕ) → step_of (code.NoLoop x) ≡ NoLoop x
unfolding step_of
no_loop_is x = ap (code.fold-Step Step Plan step_layer plan_layer) (sym (rolls-NoLoop x)) ∙ code.fold-roll-Step Step Plan step_layer plan_layer (layer.NoLoop x)

-- all of them
pub ruleset equations = (plan_is, scan_is, extend_is, column_extend_is, close_is, column_close_is, join_is, keep_is, differ_is, no_loop_is)
