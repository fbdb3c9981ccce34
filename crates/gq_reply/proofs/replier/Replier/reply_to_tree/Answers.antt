use Rattle.std.proofs.Common.{inl, inr, refl, subst}
use Rattle.gq_reply.proofs.Replying.{if_each, may_set, replied, replied_as, same_behind, set_after}
use Rattle.gq_syntax.specs.Outcomes.{SpelledText}
use Rattle.gq_session.specs.declared.answering.Tone.TheVariants as tone
use Rattle.gq_ast.specs.declared.statement.Statement.TheVariants as tree
use Rattle.gq_reply.proofs.replier.Replier.reply_to_tree.Goals as goal

pub reply_to_asked-requires-clause-spelled : goal.reply_to_asked-requires-clause-spelled
reply_to_asked-requires-clause-spelled g c = (c.args.workspace.now.params, inl (subst (λ t. SpelledText c.args.statement.now c.args.workspace.now.params t) c.in-Query.is c.requires.spelled))

pub returns-in-Query-clause-replies : goal.returns-in-Query-clause-replies
returns-in-Query-clause-replies g c =
    c.reply_to_asked.ensures.replies c.args.workspace.now.params (subst (λ t. SpelledText c.args.statement.now c.args.workspace.now.params t) c.in-Query.is c.requires.spelled)

pub returns-in-Query-clause-behind : goal.returns-in-Query-clause-behind
returns-in-Query-clause-behind g c =
    let spelled = subst (λ t. SpelledText c.args.statement.now c.args.workspace.now.params t) c.in-Query.is c.requires.spelled in
    if_each _ _ (same_behind _ _ (tree.Query c.in-Query.query) spelled refl)

pub reply_to_planned-requires : goal.reply_to_planned-requires
reply_to_planned-requires g c = (c.args.workspace.now.params, inr (inl (subst (λ t. SpelledText c.args.statement.now c.args.workspace.now.params t) c.in-Plan.is c.requires.spelled)))

pub returns-in-Plan-clause-replies : goal.returns-in-Plan-clause-replies
returns-in-Plan-clause-replies g c =
    c.reply_to_planned.ensures c.args.workspace.now.params (subst (λ t. SpelledText c.args.statement.now c.args.workspace.now.params t) c.in-Plan.is c.requires.spelled)

pub returns-in-Plan-clause-behind : goal.returns-in-Plan-clause-behind
returns-in-Plan-clause-behind g c =
    let spelled = subst (λ t. SpelledText c.args.statement.now c.args.workspace.now.params t) c.in-Plan.is c.requires.spelled in
    if_each _ _ (same_behind _ _ (tree.Plan c.in-Plan.query) spelled refl)

pub reply_to_asked-requires-in-Profile-clause-spelled : goal.reply_to_asked-requires-in-Profile-clause-spelled
reply_to_asked-requires-in-Profile-clause-spelled g c =
    (c.args.workspace.now.params, inr (inr (subst (λ t. SpelledText c.args.statement.now c.args.workspace.now.params t) c.in-Profile.is c.requires.spelled)))

pub returns-in-Profile-clause-replies : goal.returns-in-Profile-clause-replies
returns-in-Profile-clause-replies g c =
    c.reply_to_asked-in-Profile.ensures.replies c.args.workspace.now.params (subst (λ t. SpelledText c.args.statement.now c.args.workspace.now.params t) c.in-Profile.is c.requires.spelled)

pub returns-in-Profile-clause-behind : goal.returns-in-Profile-clause-behind
returns-in-Profile-clause-behind g c =
    let spelled = subst (λ t. SpelledText c.args.statement.now c.args.workspace.now.params t) c.in-Profile.is c.requires.spelled in
    if_each _ _ (same_behind _ _ (tree.Profile c.in-Profile.query) spelled refl)

pub returns-in-Schema-clause-replies : goal.returns-in-Schema-clause-replies
returns-in-Schema-clause-replies g c =
    let spelled = subst (λ t. SpelledText c.args.statement.now c.args.workspace.now.params t) c.in-Schema.is c.requires.spelled in
    replied _ tone.Good _ (inr (inl (spelled, refl))) _ _ c.write_schema.ensures.bytes c.write_schema.ensures.cause _ c.toned.ensures

pub returns-in-Schema-clause-behind : goal.returns-in-Schema-clause-behind
returns-in-Schema-clause-behind g c =
    let spelled = subst (λ t. SpelledText c.args.statement.now c.args.workspace.now.params t) c.in-Schema.is c.requires.spelled in
    if_each _ _ (same_behind _ _ tree.Schema spelled refl)

pub returns-in-Param-clause-replies : goal.returns-in-Param-clause-replies
returns-in-Param-clause-replies g c =
    let spelled = subst (λ t. SpelledText c.args.statement.now c.args.workspace.now.params t) c.in-Param.is c.requires.spelled in
    replied_as _ _ (may_set _ _ _ c.in-Param.name c.in-Param.value spelled) _ _ c.reply_to_param.ensures.replies

pub returns-in-Param-clause-behind : goal.returns-in-Param-clause-behind
returns-in-Param-clause-behind g c =
    let spelled = subst (λ t. SpelledText c.args.statement.now c.args.workspace.now.params t) c.in-Param.is c.requires.spelled in
    set_after _ _ c.in-Param.name c.in-Param.value spelled _ _ c.reply_to_param.ensures.behind
