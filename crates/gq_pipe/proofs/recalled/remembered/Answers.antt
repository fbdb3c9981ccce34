use Rattle.std.proofs.Common.{◌∷◌, [], Option, length, sym, ap, subst, arith}
use Rattle.std.specs.Prelude.{IfSome}
use Rattle.std.proofs.lemmas.List.{length-append}
use Rattle.gq_sift.specs.Remembered.{IsRemembered}
use Rattle.gq_sift.specs.declared.remembered.Remembered.{Remembered}
use Rattle.gq_steps.specs.Groups.{group_at}
use Rattle.gq_steps.specs.Moves.{run_of}
use Rattle.gq_pipe.specs.steps.Recalled.{AreRemembered}
use Rattle.gq_pipe.proofs.Recalling.{one_remembered}
use Rattle.gq_pipe.proofs.recalled.remembered.Goals as goal

pub loop-depth-preserved : goal.loop-depth-preserved
loop-depth-preserved c =
    let items = c.in-Ok.ensures.items in
    let many = c.loop-depth.invariant.many in
    record {
      remembered = subst (AreRemembered (run_of c.args.plan_run.now) c.args.groups.now) (sym items)
          (one_remembered (run_of c.args.plan_run.now) c.args.groups.now c.loop-depth.all.items c.remembered_at-one.result c.loop-depth.invariant.remembered
          (λ m is. subst (λ n. IsRemembered (run_of c.args.plan_run.now) (group_at c.args.groups.now n) m) (sym many)
          (subst (λ (o : Option Remembered). IfSome o (IsRemembered (run_of c.args.plan_run.now) (group_at c.args.groups.now c.loop-depth.depth))) is c.remembered_at-one.ensures)));
      many = omega (arith, many, ap length items, length-append c.loop-depth.all.items (c.remembered_at-one.result ∷ []));
    }
