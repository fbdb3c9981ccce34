use Rattle.std.proofs.Common.{ℕ, List, length, take, set, get_or, sym, ap, ap₂, ◌∙◌}
use Rattle.std.proofs.lemmas.List.{length-set, take_more}
use Rattle.gq_join.specs.Kept.{rel_in}
use Rattle.gq_steps.specs.steps.Outcomes.{with_rels}
use Rattle.gq_steps.proofs.Joining.{set_all_more}
use Rattle.gq_steps.proofs.plan_run.take_rels.Goals as goal

pub loop-variable-preserved : goal.loop-variable-preserved
loop-variable-preserved c =
    let vs : List ℕ = c.rels-variable-items.result.now in
    let i : ℕ = c.loop-variable.variable-index in
    record {
      items = c.loop-variable.invariant.items;
      many = ap length c.set.ensures ∙ length-set _ _ _ ∙ c.loop-variable.invariant.many;
      written =
          c.set.ensures
          ∙ ap₂ (λ l n. set l (get_or vs i 0) n) c.loop-variable.invariant.written c.rel.ensures
          ∙ sym (set_all_more (take i vs) (get_or vs i 0) (λ v. rel_in c.args.build.now v c.args.found) c.args.rels.now)
          ∙ ap (λ l. with_rels c.args.build.now c.args.found l c.args.rels.now) (sym (take_more vs i 0 c.loop-variable-test.true));
    }
