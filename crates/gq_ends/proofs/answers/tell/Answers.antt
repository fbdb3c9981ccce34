use Rattle.std.proofs.Common.{◌<◌, length, refl, arith}
use Rattle.std.proofs.lemmas.Option.{slice_get_read}
use Rattle.gq_ends.proofs.Answering.{node_told}
use Rattle.gq_ends.proofs.answers.tell.Goals as goal

pub returns-then-table-len : goal.returns-then-table-len
returns-then-table-len c =
    let xs = c.args.answers.now.items in
    let n = c.args.node in
    let low : n.table < length xs = omega (arith, c.if-table-len.true, c.len.ensures, c.args.answers.now.ok.0) in
    node_told xs c.index_mut.result.now c.tell.new.self n c.args.passes
    (slice_get_read xs (length xs) n.table c.index_mut.result.now refl low c.index_mut.ensures.value) low c.tell.ensures
