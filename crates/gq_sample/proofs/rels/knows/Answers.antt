use Rattle.std.proofs.Common.{◌+◌, ◌++◌, ap, arith, ◌∙◌}
use Rattle.gq_sample.specs.Sample.{known_by}
use Rattle.gq_sample.proofs.Numbers.{flat_map_more}
use Rattle.gq_sample.proofs.rels.knows.Goals as goal

pub loop-row-preserved : goal.loop-row-preserved
loop-row-preserved c =
    c.in_ok-push_known.ensures ∙ ap (λ l. l ++ known_by c.args.size (c.loop-row.row + 1)) c.loop-row.invariant
    ∙ flat_map_more (known_by c.args.size) 1 c.loop-row.row (c.loop-row.row + 1) (omega arith)
