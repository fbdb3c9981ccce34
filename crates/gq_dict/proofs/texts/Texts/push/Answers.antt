use Rattle.std.proofs.Common.{◌≡◌, ◌++◌, length, ap, ◌∙◌}
use Rattle.gq_dict.proofs.Cut.{cut_push}
use Rattle.gq_dict.proofs.texts.Texts.push.Goals as goal

pub invariant_of-self-2 : goal.invariant_of-self-2
invariant_of-self-2 c =
    let bytes = c.self.inside.bytes.items in
    let text = c.args.text.now in
    let all : c.extend_from_slice.new.self.items ≡ bytes ++ text = c.in_ok-extend_from_slice.ensures.items ∙ ap (λ t. bytes ++ t) c.as_bytes.ensures.value in
    let end : c.len.result ≡ length (bytes ++ text) = c.len.ensures ∙ c.extend_from_slice.new.self.ok.0 ∙ ap length all in
    rw (c.push_reserved.ensures.items, c.in_ok-reserve.ensures.items, end, all) (cut_push bytes c.self.inside.ends.items text c.self.invariant c.utf8.text)
