use Rattle.std.proofs.Common.{◌≡◌, Bool, true, false, refl, sym, ap}
use Rattle.gq_law_groups.specs.Groups.{makes_group}
use Rattle.gq_steps.specs.Levels.{step_at}
use Rattle.gq_steps.specs.Moves.{run_of}
use Rattle.gq_steps.specs.declared.action.Action.TheVariants as act
use Rattle.gq_steps.proofs.Acting.{acts, no_other}
use Rattle.gq_homes.proofs.groups.starts_group.Goals as goal

pub returns-in-Scan : goal.returns-in-Scan
returns-in-Scan c = sym (ap makes_group (acts c.args.plan_run.now c.args.depth c.action.result (act.Scan c.in-Scan._node) c.action.ensures c.in-Scan.is))

pub returns-in-List : goal.returns-in-List
returns-in-List c = sym (ap makes_group (acts c.args.plan_run.now c.args.depth c.action.result (act.List c.in-List._follow) c.action.ensures c.in-List.is))

pub returns-in-Close : goal.returns-in-Close
returns-in-Close c = sym (ap makes_group (acts c.args.plan_run.now c.args.depth c.action.result (act.Close c.in-Close._follow) c.action.ensures c.in-Close.is))

pub returns-in-Join : goal.returns-in-Join
returns-in-Join c = sym (ap makes_group (acts c.args.plan_run.now c.args.depth c.action.result act.Join c.action.ensures c.in-Join.is).2)

pub returns-in_default : goal.returns-in_default
returns-in_default c = go (makes_group (step_at (run_of c.args.plan_run.now) c.args.depth)) refl
  where
    go : (b : Bool) → makes_group (step_at (run_of c.args.plan_run.now) c.args.depth) ≡ b → false ≡ makes_group (step_at (run_of c.args.plan_run.now) c.args.depth)
    go false is = sym is
    go true is = absurd (no_other c.args.plan_run.now c.args.depth c.action.result c.action.ensures is c.in_default.not-Scan c.in_default.not-List c.in_default.not-Close c.in_default.not-Join)
