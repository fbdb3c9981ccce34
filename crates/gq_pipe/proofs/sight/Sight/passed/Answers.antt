use Rattle.std.proofs.Common.{◌≡◌, ◌+◌, ◌-◌, ◌<◌, ◌∙◌, ap, refl, sym, subst, arith, length, true}
use Rattle.std.proofs.lemmas.Bool.{le-ltb}
use Rattle.gq_masks.specs.Masks.{next_end}
use Rattle.gq_pipe.specs.steps.Sights.{may_pass, passes_check}
use Rattle.gq_steps.specs.Levels.{step_at}
use Rattle.gq_steps.specs.Moves.{run_of}
use Rattle.gq_steps.specs.declared.plan_run.PlanRun.{PlanRun}
use Rattle.gq_pipe.proofs.Asking.{all_part, passes_each, steps_many}
use Rattle.gq_pipe.proofs.sight.Sight.passed.Goals as goal

pub loop-depth-init : goal.loop-depth-init
loop-depth-init c = record {
  first = omega arith;
  part = λ in_y.
      all_part (may_pass (run_of c.args.plan_run.now) c.args.self.now.group c.args.self.now.far) c.told-low.result c.next_end-high.result c.args.self.now.mask.told (next_end c.args.self.now.mask) c.first-chosen.result
      c.told-low.ensures c.next_end-high.ensures.end c.first-chosen.ensures.below;
  within = λ k past. c.first-chosen.ensures.below k ∙ le-ltb k (c.next_end-high.result - c.told-low.result) past;
  row = refl;
  run = refl;
}

pub loop-depth-preserved : goal.loop-depth-preserved
loop-depth-preserved c =
    let is = c.loop-depth.invariant.run in
    let first = c.loop-depth.invariant.first in
    let low = c.if-self-len-2.false in
    let many = steps_many c.args.plan_run.now c.len-2.result c.len-2.ensures in
    record {
      first = omega (arith, first);
      part = λ in_y k under on.
          let same : c.told-low.result + k ≡ c.args.self.now.mask.told + k = ap (λ n. n + k) c.told-low.ensures in
          c.keep_asked.ensures.kept (subst (λ (p : PlanRun). c.args.self.now.far < length (run_of p).typed.nodes) (sym is) in_y) k
          (subst (λ (p : PlanRun). passes_check (run_of p) c.args.self.now.far (c.told-low.result + k) (step_at (run_of p) c.loop-depth.depth) ≡ true) (sym is)
          (subst (λ q. passes_check (run_of c.args.plan_run.now) c.args.self.now.far q (step_at (run_of c.args.plan_run.now) c.loop-depth.depth) ≡ true) (sym same)
          (passes_each (run_of c.args.plan_run.now) c.args.self.now.group c.args.self.now.far (c.args.self.now.mask.told + k) c.loop-depth.depth first c.loop-depth-test.true (omega (arith, low, many)) on)))
          (c.loop-depth.invariant.part in_y k under on);
      within = c.keep_asked.ensures.within;
      row = c.keep_asked.ensures.row ∙ c.loop-depth.invariant.row;
      run = c.keep_asked.ensures.same ∙ is;
    }
