use Rattle.std.proofs.Common.{List, [], ap, ◌∙◌, arith, length}
use Rattle.std.specs.Prelude.{slice_index_or}
use Rattle.gq_base.specs.Values.{Val}
use Rattle.gq_render.specs.Listings.{row_text}
use Rattle.gq_render.specs.steps.Blocks.{line_of}
use Rattle.gq_render.proofs.Sequence.{written}
use Rattle.gq_render.proofs.listing.write_row.Goals as goal

pub put_row-requires : goal.put_row-requires
put_row-requires g c =
    (omega (arith, c.plain.ensures.first), omega (arith, c.requires, c.plain.ensures.end), omega (arith, c.requires, ap length c.plain.ensures.lines))

pub returns-clause-bytes : goal.returns-clause-bytes
returns-clause-bytes g c =
    written _ _ _ _ _ _ _ _ _ c.new-batch.ensures c.in_ok-put_row.ensures.bytes c.flush.ensures.bytes
    (ap (λ graph. row_text graph (line_of c.plain.result c.args.row)) c.plain.ensures.graph
    ∙ ap (λ (ls : List (List Val)). row_text c.args.graph.now (slice_index_or ls c.args.row [])) c.plain.ensures.lines)
