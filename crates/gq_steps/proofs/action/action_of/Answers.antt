use Rattle.std.proofs.Common.{◌∙◌, true, false, sym, ap}
use Rattle.gq_plan.proofs.StepEquations.{scan_is, extend_is, column_extend_is, close_is, column_close_is, join_is, keep_is, differ_is, no_loop_is}
use Rattle.gq_plan.specs.Plans.{Scan, Extend, Close, Join, Keep, Differ, NoLoop, plan_of}
use Rattle.gq_plan.specs.declared.plan.Step as code
use Rattle.gq_steps.specs.Actions.{half_action}
use Rattle.gq_steps.specs.declared.action.Action.TheVariants as act
use Rattle.gq_steps.proofs.Acting.{acted, half_acts}
use Rattle.gq_steps.proofs.action.action_of.Goals as goal

pub returns-in-Scan : goal.returns-in-Scan
returns-in-Scan c = sym (acted c.args.half c.args.step.now (code.Scan c.in-Scan.node) (Scan c.in-Scan.node) c.in-Scan.is (scan_is c.in-Scan.node))

pub returns-in-Extend : goal.returns-in-Extend
returns-in-Extend c = ap act.List c.following.ensures ∙ sym (acted c.args.half c.args.step.now (code.Extend c.in-Extend.rel c.in-Extend.from c.in-Extend.to c.in-Extend.direction) (Extend false c.in-Extend.rel c.in-Extend.from c.in-Extend.to c.in-Extend.direction) c.in-Extend.is (extend_is c.in-Extend.rel c.in-Extend.from c.in-Extend.to c.in-Extend.direction))

pub returns-in-ColumnExtend : goal.returns-in-ColumnExtend
returns-in-ColumnExtend c = ap act.Column c.following-in-ColumnExtend.ensures ∙ sym (acted c.args.half c.args.step.now (code.ColumnExtend c.in-ColumnExtend.rel c.in-ColumnExtend.from c.in-ColumnExtend.to c.in-ColumnExtend.direction) (Extend true c.in-ColumnExtend.rel c.in-ColumnExtend.from c.in-ColumnExtend.to c.in-ColumnExtend.direction) c.in-ColumnExtend.is (column_extend_is c.in-ColumnExtend.rel c.in-ColumnExtend.from c.in-ColumnExtend.to c.in-ColumnExtend.direction))

pub returns-in-Close : goal.returns-in-Close
returns-in-Close c = ap act.Close c.following-in-Close.ensures ∙ sym (acted c.args.half c.args.step.now (code.Close c.in-Close.rel c.in-Close.from c.in-Close.to c.in-Close.direction) (Close false c.in-Close.rel c.in-Close.from c.in-Close.to c.in-Close.direction) c.in-Close.is (close_is c.in-Close.rel c.in-Close.from c.in-Close.to c.in-Close.direction))

pub returns-in-ColumnClose : goal.returns-in-ColumnClose
returns-in-ColumnClose c =
    c.half_action.ensures ∙ ap (half_action c.args.half) c.following-in-ColumnClose.ensures
    ∙ sym (acted c.args.half c.args.step.now (code.ColumnClose c.in-ColumnClose.rel c.in-ColumnClose.from c.in-ColumnClose.to c.in-ColumnClose.direction) (Close true c.in-ColumnClose.rel c.in-ColumnClose.from c.in-ColumnClose.to c.in-ColumnClose.direction) c.in-ColumnClose.is (column_close_is c.in-ColumnClose.rel c.in-ColumnClose.from c.in-ColumnClose.to c.in-ColumnClose.direction)
    ∙ half_acts c.args.half c.in-ColumnClose.rel c.in-ColumnClose.from c.in-ColumnClose.to c.in-ColumnClose.direction)

pub returns-in-Join : goal.returns-in-Join
returns-in-Join c = sym (acted c.args.half c.args.step.now (code.Join c.in-Join.side c.in-Join.keys) (Join (plan_of c.in-Join.side) c.in-Join.keys) c.in-Join.is (join_is c.in-Join.side c.in-Join.keys))

pub returns-in-Keep : goal.returns-in-Keep
returns-in-Keep c = sym (acted c.args.half c.args.step.now (code.Keep c.in-Keep.test) (Keep c.in-Keep.test) c.in-Keep.is (keep_is c.in-Keep.test))

pub returns-in-Differ : goal.returns-in-Differ
returns-in-Differ c = sym (acted c.args.half c.args.step.now (code.Differ c.in-Differ.pair) (Differ c.in-Differ.pair) c.in-Differ.is (differ_is c.in-Differ.pair))

pub returns-in-NoLoop : goal.returns-in-NoLoop
returns-in-NoLoop c = sym (acted c.args.half c.args.step.now (code.NoLoop c.in-NoLoop.rel) (NoLoop c.in-NoLoop.rel) c.in-NoLoop.is (no_loop_is c.in-NoLoop.rel))
