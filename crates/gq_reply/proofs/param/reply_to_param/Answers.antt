use Rattle.std.proofs.Common.{◌≡◌, Some, None, refl, sym, ap₂, ◌∙◌, subst}
use Rattle.gq_base.specs.Values.{literal_val}
use Rattle.gq_base.specs.declared.memory.Memory.TheVariants.{Exhausted}
use Rattle.gq_render.specs.Texts.{param_line}
use Rattle.gq_reply.proofs.Replying.{by_memory, replied, wants_memory}
use Rattle.gq_reply.proofs.SetValue.{value_got}
use Rattle.gq_tokens.specs.Parameters.{IsFull}
use Rattle.gq_session.specs.declared.answering.Tone.TheVariants as tone
use Rattle.gq_reply.proofs.param.reply_to_param.Goals as goal

pub unreachable-requires : goal.unreachable-requires
unreachable-requires g c =
    let got = value_got c.args.params.now c.set.new.self c.args.name c.in-Ok.key c.as_str.result.now c.args.value c.in-Ok.ensures.cases c.as_str.ensures.bytes c.in-Ok-set.ensures.set in
    let none = rw c.in-None.is at c.get.ensures in
    let clash : None ≡ Some c.args.value = none ∙ got in
    cc clash

pub returns-in-Some-clause-replies : goal.returns-in-Some-clause-replies
returns-in-Some-clause-replies g c =
    let got = value_got c.args.params.now c.set.new.self c.args.name c.in-Ok.key c.as_str.result.now c.args.value c.in-Ok.ensures.cases c.as_str.ensures.bytes c.in-Ok-set.ensures.set in
    let some = rw c.in-Some.is at c.get.ensures in
    let both : Some c.in-Some.value.now ≡ Some c.args.value = some ∙ got in
    let value : c.in-Some.value.now ≡ c.args.value = cc both in
    let room : ¬ (IsFull c.args.name c.args.params.now) = λ full.
    let clash = c.in-Ok-set.ensures.full.1 (subst (λ n. IsFull n c.args.params.now) (sym c.in-Ok.ensures.cases) full) in
    cc clash in
    replied _ tone.Good _ (room, ap₂ (λ n v. param_line n (literal_val v)) c.as_str-in-Some.ensures.bytes value) _ _ c.write_param.ensures.bytes c.write_param.ensures.cause _ c.toned.ensures

pub returns-in_default-clause-replies : goal.returns-in_default-clause-replies
returns-in_default-clause-replies g c = wants_memory _ Exhausted refl _ _ c.reply_memory.ensures

pub returns-in_default-clause-behind : goal.returns-in_default-clause-behind
returns-in_default-clause-behind g c = by_memory _ Exhausted refl _ _ c.reply_memory.ensures

pub returns-clause-replies : goal.returns-clause-replies
returns-clause-replies g c = wants_memory _ Exhausted refl _ _ c.reply_memory-in-Err-Memory.ensures

pub returns-clause-behind : goal.returns-clause-behind
returns-clause-behind g c = by_memory _ Exhausted c.in-Err-Memory.ensures.kept _ _ c.reply_memory-in-Err-Memory.ensures
