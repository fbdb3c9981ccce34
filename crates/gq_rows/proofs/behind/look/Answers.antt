use Rattle.std.proofs.Common.{subst, sym}
use Rattle.gq_rows.specs.steps.Past.{IsBarOf}
use Rattle.gq_rows.proofs.behind.look.Goals as goal

pub returns-in-Some-past : goal.returns-in-Some-past
returns-in-Some-past c = λ t is.
    let q = c.args.question.now in
    let p = rw c.in-Some-past.is at is in
    record { told = c.look_on.ensures.told p.told; bar = subst (IsBarOf q.graph.now q.bound.now t) (sym c.look_on.ensures.bar) p.bar }
