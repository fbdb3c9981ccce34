use Rattle.std.proofs.Common.{◌<◌, ◌/◌, length, refl, arith}
use Rattle.std.proofs.lemmas.Option.{slice_get_read}
use Rattle.gq_bits.specs.declared.TheConstants.{VECTOR}
use Rattle.gq_ends.proofs.Answering.{row_told}
use Rattle.gq_ends.proofs.answers.TableAnswers.tell.Goals as goal

pub returns-then-piece-len : goal.returns-then-piece-len
returns-then-piece-len c =
    let xs = c.args.self.now.pieces.items in
    let low : c.args.row / VECTOR < length xs = omega (arith, c.if-piece-len.true, c.len.ensures, c.args.self.now.pieces.ok.0) in
    row_told xs c.index_mut.result.now c.tell.new.self c.args.row c.args.passes
    (slice_get_read xs (length xs) (c.args.row / VECTOR) c.index_mut.result.now refl low c.index_mut.ensures.value) low c.tell.ensures
