use Rattle.std.proofs.Common.{◌<◌, refl, subst, arith}
use Rattle.gq_chains.specs.declared.chain.Beginning.TheVariants as begin
use Rattle.gq_chains.specs.steps.Chains.{HasBegun}
use Rattle.gq_steps.specs.Moves.{run_of}
use Rattle.gq_chains.proofs.Walking.{put_written}
use Rattle.gq_chains.proofs.blocks.begin_at.Goals as goal

pub returns-then-place-row_count : goal.returns-then-place-row_count
returns-then-place-row_count c =
    let node = c.requires.can.node in
    let count = c.requires.can.count in
    let below = c.if-place-row_count.true in
    let fits = c.row_count.type_inv in
    put_written (λ j old told new. HasBegun (run_of c.args.plan_run.now) (begin.Rows c.args.node) c.args.place old told new) c.args.row.now c.args.offset c.args.at c.args.rows.now c.args.marks.now c.requires.at c.requires.on
    c.args.node c.args.place (omega (arith, node, count)) c.requires.few c.told-rows
    (record { low = subst (λ n. c.args.place < n) c.row_count.ensures below; few = omega (arith, below, fits); written = refl })
