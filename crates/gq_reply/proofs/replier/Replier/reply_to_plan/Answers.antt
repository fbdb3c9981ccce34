use Rattle.std.proofs.Common.{◌++◌, length, ap, ap₂, ◌∙◌, refl}
use Rattle.gq_explain.specs.Plans.{plan_text}
use Rattle.gq_reply.proofs.Replying.{as_many, columns_long, replied, wants_memory}
use Rattle.gq_reply.specs.ReplyTexts.{costs_shown}
use Rattle.gq_session.specs.declared.answering.Tone.TheVariants as tone
use Rattle.gq_reply.proofs.replier.Replier.reply_to_plan.Goals as goal

pub write_plans-requires-clause-plans : goal.write_plans-requires-clause-plans
write_plans-requires-clause-plans g c = as_many c.args.self.now.graph.now.catalog c.args.bound.now _ c.in-Ok.ensures.covers

pub write_plans-requires-clause-columns : goal.write_plans-requires-clause-columns
write_plans-requires-clause-columns g c =
    ap length c.in-Ok.ensures.columns ∙ columns_long _ _ (as_many c.args.self.now.graph.now.catalog c.args.bound.now _ c.in-Ok.ensures.covers)

pub write_plans-requires-clause-arrows : goal.write_plans-requires-clause-arrows
write_plans-requires-clause-arrows g c = ap length c.in-Ok.ensures.arrows ∙ c.requires.arrows

pub returns-in-Ok : goal.returns-in-Ok
returns-in-Ok g c =
    let settings = c.args.self.now.settings in
    let made = c.in-Ok.shown.made in
    replied _ tone.Good _
    (record {
      plans = made.plans;
      costs = made.costs;
      are = c.in-Ok.ensures.are;
      covers = c.in-Ok.ensures.covers;
      is = ap₂ (λ n r. plan_text c.args.bound.now c.args.self.now.graph.now.catalog made.plans n r ++ costs_shown settings.order made.costs) c.in-Ok.ensures.columns c.in-Ok.ensures.arrows;
    })
    _ _ c.write_plans.ensures.bytes c.write_plans.ensures.cause _ c.toned.ensures

pub returns-in-Err : goal.returns-in-Err
returns-in-Err g c = wants_memory _ c.in-Err.memory refl _ _ c.reply_memory.ensures
