use Rattle.std.proofs.Common.{◌≡◌, ◌<◌, ◌∷◌, length, get_or, ap, ◌∙◌, arith}
use Rattle.std.proofs.lemmas.List.{get_or_read}
use Rattle.gq_dict.proofs.Cut.{length_texts_in}
use Rattle.gq_dict.proofs.texts.Texts.get.Goals as goal

pub from_utf8_unchecked-requires : goal.from_utf8_unchecked-requires
from_utf8_unchecked-requires c =
    let ends = c.self.inside.ends.items in
    let place = c.args.place in
    let within : place < length ends = grind (arith, length_texts_in) in
    let start : c.start_at-start.result ≡ get_or (0 ∷ ends) place 0 = c.start_at-start.ensures ∙ ap (λ cuts. get_or (0 ∷ cuts) place 0) c.as_slice.ensures.value in
    let end : c.index.result.now ≡ get_or ends place 0 = get_or_read ends place c.index.result.now within c.index.ensures 0 in
    rw (start, end, c.deref.ensures.value) (c.self.invariant.utf8 place within)
