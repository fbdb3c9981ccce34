use Rattle.std.proofs.Common.{Err, refl, subst}
use Rattle.gq_bound.specs.Binding.{Answers}
use Rattle.gq_reply.proofs.Arrowed.{arrows_long}
use Rattle.gq_reply.proofs.Replying.{begun, may_show, replied, replied_as, unbound}
use Rattle.gq_ast.specs.declared.statement.Statement.TheVariants as tree
use Rattle.gq_reply.proofs.replier.Replier.reply_to_planned.Goals as goal

pub reply_to_plan-requires-clause-begins : goal.reply_to_plan-requires-clause-begins
reply_to_plan-requires-clause-begins g c = begun _ _ _ _ (rw c.catalog.ensures.value at c.in-Ok.ensures.answers)

pub reply_to_plan-requires-clause-arrows : goal.reply_to_plan-requires-clause-arrows
reply_to_plan-requires-clause-arrows g c = arrows_long _ _ _ _ (rw c.catalog.ensures.value at c.in-Ok.ensures.answers)

pub returns-in-Ok : goal.returns-in-Ok
returns-in-Ok g c = λ params spelled.
    let is = rw c.catalog.ensures.value at c.in-Ok.ensures.answers in
    replied_as _ _ (may_show _ params _ c.args.query.now c.in-Ok.bound spelled is) _ _ c.reply_to_plan.ensures

pub returns-in-Err : goal.returns-in-Err
returns-in-Err g c = λ params spelled.
    let refused = subst (λ catalog. Answers c.args.query.now c.args.statement.now catalog (Err c.in-Err.refusal)) c.catalog.ensures.value c.in-Err.ensures.answers in
    replied _ c.tone_of.result _ (rw c.tone_of.ensures (unbound _ params _ (tree.Plan c.args.query.now) spelled c.args.query.now refl c.in-Err.refusal refused))
    _ _ c.write_bind_refusal.ensures.bytes c.write_bind_refusal.ensures.cause _ c.toned.ensures
