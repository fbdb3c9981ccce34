use Rattle.std.proofs.Common.{rules}
use Rattle.gq_tokens.proofs.repeats.listed.Goals as goal

pub returns : goal.returns
returns g c = λ read parts.
    let first = parts _ _ _ c.in_ok-first.ensures in
    rw first (c.behind.ensures (λ _. read) (λ old new s found k. search rules))
