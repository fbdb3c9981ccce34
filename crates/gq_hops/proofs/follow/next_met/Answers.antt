use Rattle.std.proofs.Common.{◌∙◌, ◌≤◌, length, subst, arith}
use Rattle.gq_hops.specs.declared.follow.Frame.{Frame}
use Rattle.gq_hops.proofs.Hopping.{none_left}
use Rattle.gq_hops.proofs.follow.next_met.Goals as goal

pub returns-then-len-level : goal.returns-then-len-level
returns-then-len-level c =
    let f = c.args.follow.now in
    let l : Frame = c.loop-met.level in
    let low : length f.tables.items ≤ l.table = omega (arith, c.if-len-level.true, c.len.ensures) in
    c.loop-met.invariant.left
    ∙ none_left f.graph.now f.kind.now f.way l.at l.table l.place (subst (λ es. length es ≤ l.table) c.requires.tables low)
