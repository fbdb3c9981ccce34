use Rattle.std.proofs.Common.{◌≡◌, length, arith}
use Rattle.gq_shell.proofs.Running.{served}
use Rattle.gq_shell.proofs.serving.session.Goals as goal

pub returns-clause-served : goal.returns-clause-served
returns-clause-served g c =
    let size : length c.deref_mut.result.now ≡ 65536 = omega (arith, c.deref_mut.ensures.len, c.in-Ok.ensures.len) in
    let none = c.requires.empty in
    served c.args.graph.now c.args.settings _ _ _ _ _ _ size c.status_of.ensures (rw none at c.session-ended.ensures.read) (rw none at c.session-ended.ensures.whole)
