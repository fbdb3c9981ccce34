use Rattle.std.proofs.Common.{◌∙◌, ap, length}
use Rattle.gq_exists.proofs.Taking.{length-key}
use Rattle.gq_exists.proofs.gathering.Gathering.take_at.Goals as goal

pub take-requires-clause-wide : goal.take-requires-clause-wide
take-requires-clause-wide c =
    ap length (c.as_slice.ensures.value ∙ c.in_ok-read_key.ensures) ∙ length-key c.args.typed.now c.args.chunk.now c.args.positions.now c.args.self.now.width c.requires.wide
