use Rattle.std.proofs.Common.{◌∷◌}
use Rattle.std.proofs.lemmas.Result.{err_from_is_err_and}
use Rattle.gq_tokens.specs.Readers.{many, pure}
use Rattle.gq_tokens.proofs.Loops.{after_first, fails_after}
use Rattle.gq_tokens.proofs.repeats.behind.Goals as goal

pub returns-in_err-more : goal.returns-in_err-more
returns-in_err-more g c = λ read items.
    let e = err_from_is_err_and c.from_residual.result c.from_residual.ensures.1 in
    rw (e.1, e.2) (fails_after (many (g.L.Lead.test c.args.lead) read c.args.tokens.now)
    (λ xs. pure (c.args.first ∷ xs)) c.in_err-more.field-0.0 c.many.new.tokens (c.in_err-more.ensures read items))

pub returns : goal.returns
returns g c = λ read items.
    after_first c.args.first (many (g.L.Lead.test c.args.lead) read c.args.tokens.now)
    c.in_ok-more.more c.many.new.tokens _ (c.in_ok-more.ensures read items) c.in_ok-led.ensures
