use Rattle.std.proofs.Common.{◌∙◌, ap}
use Rattle.gq_exists.specs.steps.Rows.{marked_in}
use Rattle.gq_exists.proofs.Marked.{block_more}
use Rattle.gq_exists.proofs.rows.reach_block.Goals as goal

pub blocks-2-preserved : goal.blocks-2-preserved
blocks-2-preserved c = λ r. ap (λ l. marked_in l r) c.in_ok-push.ensures.items ∙ block_more c.blocks-2.blocks.items c.none.result c.none.ensures.blank r ∙ c.blocks-2.invariant r
