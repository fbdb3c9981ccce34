use Rattle.std.proofs.Common.{[], Err, ap, arith, inl, refl, sym, ◌∙◌}
use Rattle.gq_io.proofs.Moved.{Appends-none}
use Rattle.gq_reply.proofs.Blanks.{white_blank}
use Rattle.gq_reply.proofs.Replying.{cause_of, for_one}
use Rattle.gq_reply.specs.Replies.{AreBehind}
use Rattle.gq_reply.proofs.replier.Replier.reply.Goals as goal

pub returns-then-is_white-clause-replies : goal.returns-then-is_white-clause-replies
returns-then-is_white-clause-replies g c =
    let blank = white_blank _ (sym c.is_white.ensures ∙ c.if-is_white.true) in
    record { bytes = ([], inl (blank, refl), Appends-none _); cause = record { later = omega arith; kept = refl; failed = tt } }

pub returns-then-is_white-clause-behind : goal.returns-then-is_white-clause-behind
returns-then-is_white-clause-behind g c = inl (white_blank _ (sym c.is_white.ensures ∙ c.if-is_white.true), refl)

pub reply_to_tree-requires-clause-spelled : goal.reply_to_tree-requires-clause-spelled
reply_to_tree-requires-clause-spelled g c = (c.in-Ok.ensures.whole c.in-Ok.tree).0 refl

pub reply_to_refused-requires : goal.reply_to_refused-requires
reply_to_refused-requires g c = record { syntax = λ at is. (c.in-Err.ensures.syntax at).0 (ap Err is) }

pub returns-in-Err-clause-replies : goal.returns-in-Err-clause-replies
returns-in-Err-clause-replies g c =
    c.reply_to_refused.ensures.replies c.args.workspace.now.params
    (cause_of c.args.workspace.now.params c.args.statement.now c.in-Err.refusal c.in-Err.ensures.lexes c.in-Err.ensures.syntax c.in-Err.ensures.depth c.in-Err.ensures.unknown)

pub returns-in-Err-clause-behind : goal.returns-in-Err-clause-behind
returns-in-Err-clause-behind g c = for_one (λ params t. AreBehind params c.args.statement.now t params) c.args.workspace.now.params _ c.reply_to_refused.ensures.behind
