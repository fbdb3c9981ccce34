use Rattle.std.proofs.Common.{sym, subst}
use Rattle.std.proofs.Math.Logic.{∥∥₁_map}
use Rattle.gq_pipe.specs.steps.Ahead.{AreAhead}
use Rattle.gq_pipe.specs.steps.Recalled.{AreRemembered}
use Rattle.gq_pipe.specs.steps.Valued.{AreIndexed}
use Rattle.gq_steps.specs.Moves.{run_of}
use Rattle.gq_steps.specs.declared.plan_run.PlanRun.{PlanRun}
use Rattle.gq_steps.proofs.Here.{group_held, group_low, group_range}
use Rattle.gq_steps.proofs.Standings.{stands_at}
use Rattle.gq_pipe.proofs.Unseen.{ahead_walks}
use Rattle.gq_pipe.proofs.lists.ListsLevels.ends_at.Goals as goal

pub ends_ahead-requires-clause-run : goal.ends_ahead-requires-clause-run
ends_ahead-requires-clause-run c = c.requires.opened.2.stand.runs

pub ends_ahead-requires-clause-step : goal.ends_ahead-requires-clause-step
ends_ahead-requires-clause-step c =
    let st = stands_at (run_of c.args.self.now.plan_run) c.args.self.now.groups.items c.args.self.now.row c.args.depth c.requires.inside c.requires.opened.0 c.requires.opened.1 c.requires.opened.2.stand in
    group_low c.args.self.now.plan_run c.args.self.now.groups.items c.args.self.now.row c.args.depth c.requires.inside c.index-group.result.now c.index-group.ensures c.requires.opened.0 c.requires.opened.1 st

pub ends_ahead-requires-clause-action : goal.ends_ahead-requires-clause-action
ends_ahead-requires-clause-action c =
    let st = stands_at (run_of c.args.self.now.plan_run) c.args.self.now.groups.items c.args.self.now.row c.args.depth c.requires.inside c.requires.opened.0 c.requires.opened.1 c.requires.opened.2.stand in
    (group_range (run_of c.args.self.now.plan_run) c.args.self.now.groups.items c.args.self.now.row c.args.depth c.requires.inside c.index-group.result.now c.index-group.ensures c.requires.opened.0 c.requires.opened.1 st).action

pub ends_ahead-requires-clause-held : goal.ends_ahead-requires-clause-held
ends_ahead-requires-clause-held c =
    let st = stands_at (run_of c.args.self.now.plan_run) c.args.self.now.groups.items c.args.self.now.row c.args.depth c.requires.inside c.requires.opened.0 c.requires.opened.1 c.requires.opened.2.stand in
    group_held (run_of c.args.self.now.plan_run) c.args.self.now.groups.items c.args.self.now.row c.args.depth c.requires.inside c.index-group.result.now c.index-group.ensures c.requires.opened.0 c.requires.opened.1 st

pub invariant_of-self : goal.invariant_of-self
invariant_of-self c = record {
  told = subst (λ (p : PlanRun). ∥ AreAhead (run_of p) c.args.self.now.groups.items c.ends_ahead.new.aheads.items ∥₁) (sym c.ends_ahead.ensures.same)
      (∥∥₁_map c.args.self.now.told (c.ends_ahead.ensures.told c.args.self.now.groups.items));
  indexed = subst (λ (p : PlanRun). ∥ AreIndexed (run_of p) c.args.self.now.groups.items c.args.self.now.indexes.items ∥₁) (sym c.ends_ahead.ensures.same) c.args.self.now.indexed;
  recalls = subst (λ (p : PlanRun). ∥ AreRemembered (run_of p) c.args.self.now.groups.items c.args.self.now.remembered.items ∥₁) (sym c.ends_ahead.ensures.same) c.args.self.now.recalls;
}

pub returns-clause-ends : goal.returns-clause-ends
returns-clause-ends c = λ on pre long st flat place.
    ahead_walks (run_of c.args.self.now.plan_run) c.args.self.now.groups.items c.args.self.now.row c.ends_ahead.new.aheads.items c.args.depth c.requires.inside c.index-group.result.now c.index-group.ensures pre long
    (stands_at (run_of c.args.self.now.plan_run) c.args.self.now.groups.items c.args.self.now.row c.args.depth c.requires.inside pre long st.stand) c.args.place (c.ends_ahead.ensures.ends on) place flat
    (∥∥₁_map c.args.self.now.told (c.ends_ahead.ensures.told c.args.self.now.groups.items))
