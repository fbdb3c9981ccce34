use Rattle.std.proofs.Common.{◌≡◌, ◌-◌}
use Rattle.gq_tokens.specs.Readers.{Reader, many, many_from}
use Rattle.gq_tokens.specs.Repeats.{Items}
use Rattle.gq_tokens.proofs.Loops.{fronted}
use Rattle.gq_tokens.proofs.repeats.many.Given as goal

-- whatever reader the calls stand for
abbrev pub invariant-loop-turn : goal.invariant-loop-turn
invariant-loop-turn g l =
    let test = g.L.Lead.test l.lead in
    (read : _ → Reader _) → Items read (goal.R-post g l.item)
    → fronted l.found (many_from test read (l._turn-end - l._turn) l.tokens) ≡ many test read l.fn.tokens
