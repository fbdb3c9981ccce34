use Rattle.std.proofs.Common.{◌∷◌, [], Option, length, sym, ap, subst, arith}
use Rattle.std.specs.Prelude.{IfSome}
use Rattle.std.proofs.lemmas.List.{length-append}
use Rattle.gq_steps.specs.Groups.{group_at}
use Rattle.gq_steps.specs.Moves.{run_of}
use Rattle.gq_pipe.specs.declared.valued.ValueIndex.{ValueIndex}
use Rattle.gq_pipe.specs.steps.Valued.{AreIndexed, IsIndexed}
use Rattle.gq_pipe.proofs.Indexing.{one_indexed}
use Rattle.gq_pipe.proofs.valued.each_index.Goals as goal

pub loop-group-preserved : goal.loop-group-preserved
loop-group-preserved c =
    let items = c.in-Ok.ensures.items in
    let many = c.loop-group.invariant.many in
    record {
      indexed = subst (AreIndexed (run_of c.args.plan_run.now) c.args.groups.now) (sym items)
          (one_indexed (run_of c.args.plan_run.now) c.args.groups.now c.loop-group.indexes.items c.value_index-index.result c.loop-group.invariant.indexed
          (λ t is. subst (λ n. IsIndexed (run_of c.args.plan_run.now) (group_at c.args.groups.now n) t) (sym many)
          (subst (λ (o : Option ValueIndex). IfSome o (IsIndexed (run_of c.args.plan_run.now) (group_at c.args.groups.now c.loop-group.group-index))) is c.value_index-index.ensures)));
      many = omega (arith, many, ap length items, length-append c.loop-group.indexes.items (c.value_index-index.result ∷ []));
    }
