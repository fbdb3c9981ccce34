use Rattle.std.proofs.Common.{arith}
use Rattle.std.proofs.lemmas.Bool.{and_parts}
use Rattle.std.proofs.lemmas.Option.{slice_get_read}
use Rattle.gq_trails.specs.steps.Chained.{all_stand, ends_in}
use Rattle.gq_trails.proofs.Behind.{row_last}
use Rattle.gq_trails.proofs.chain.Chain.row.Goals as goal

pub returns : goal.returns
returns c =
    let s = c.args.self.now in
    let some = c.requires.chain.chain.some in
    let stands = and_parts s.begun (all_stand (ends_in s)) c.requires.stands in
    row_last s.rels.now s.trails (ends_in s) (c.requires.chain.chain.state stands.0) stands.1 c.index.result.now _ (omega (arith, some, c.len.ensures, s.ends.ok.0)) (slice_get_read s.ends.items s.ends.len _ c.index.result.now s.ends.ok.0 (omega (arith, some, c.len.ensures, s.ends.ok.0)) c.index.ensures)
