use Rattle.std.proofs.Common.{subst}
use Rattle.gq_group.specs.Choices.{Begins}
use Rattle.gq_exists.proofs.Settling.{first_alone}
use Rattle.gq_exists.proofs.gathering.Gathering.take_chunk.Goals as goal

pub returns : goal.returns
returns c =
    let starts = subst (λ b. Begins c.args.chunk.now.groups.now b c.first.new.self) c.if-not-found.false c.in_ok-found.ensures in
    first_alone c.args.typed.now c.args.chunk.now c.args.self.now c.take_at.new.self c.take_at.result c.requires.wide (c.are_settled.ensures c.if-not-are_settled.false) c.first.new.self.positions
    c.positions.result.now c.positions.ensures starts.all c.take_at.ensures
