use Rattle.std.proofs.Common.{◌≡◌, ◌+◌, ◌*◌, sym, subst, arith}
use Rattle.gq_steps.specs.Moves.{run_of}
use Rattle.gq_chains.proofs.Blocked.{block_sifted}
use Rattle.gq_chains.proofs.Sifting.{IsSifting, sifted, sifting_from, sifting_passed}
use Rattle.gq_chains.proofs.blocks.sift_blocks.Goals as goal
use Rattle.gq_chains.proofs.blocks.sift_blocks.Goals.{then-has_mark, else-has_mark}

pub loop-block-init : goal.loop-block-init
loop-block-init c = sifting_from (run_of c.args.plan_run.now) c.args.group c.args.first c.args.count c.args.row.now c.args.marks.now c.requires.held c.requires.among

pub sift_block-requires-clause-fits : goal.sift_block-requires-clause-fits
sift_block-requires-clause-fits c = λ j low on.
    let below = c.loop-block.invariant.below (64 * c.loop-block.block + j) (omega arith) on in
    let fits = c.requires.fits in
    omega (arith, below, fits)

pub loop-block-preserved : goal.loop-block-preserved
loop-block-preserved c =
    let next : 64 * c.loop-block.block + 64 ≡ 64 * (c.loop-block.block + 1) = omega arith in
    elim c.if-has_mark.branch [
      | then-has_mark b ↦
          subst (IsSifting (run_of c.args.plan_run.now) c.args.group c.args.first c.args.count c.args.row.now (64 * (c.loop-block.block + 1)) c.args.row.now) (sym b.marks-is)
          (subst (λ n. IsSifting (run_of c.args.plan_run.now) c.args.group c.args.first c.args.count c.args.row.now n c.args.row.now b.sift_block.new.marks) next
          (block_sifted (run_of c.args.plan_run.now) c.args.group c.args.first c.args.count c.args.row.now (64 * c.loop-block.block) c.loop-block.marks b.sift_block.new.marks c.loop-block.invariant b.sift_block.ensures.whole b.sift_block.ensures.kept b.sift_block.ensures.outside))
      | else-has_mark b ↦
          subst (IsSifting (run_of c.args.plan_run.now) c.args.group c.args.first c.args.count c.args.row.now (64 * (c.loop-block.block + 1)) c.args.row.now) (sym b.marks-is)
          (sifting_passed (run_of c.args.plan_run.now) c.args.group c.args.first c.args.count c.args.row.now (64 * c.loop-block.block) (64 * (c.loop-block.block + 1)) c.args.row.now c.loop-block.marks c.loop-block.invariant (omega arith)
          (λ j above below. c.has_mark.ensures.none b.if-has_mark.false j above (omega (arith, below))))
    ]

pub returns : goal.returns
returns c =
    let high = c.loop-block-test.false in
    let few = c.requires.count in
    sifted (run_of c.args.plan_run.now) c.args.group c.args.first c.args.count c.args.row.now (64 * c.loop-block.block) c.args.row.now c.loop-block.marks c.loop-block.invariant (omega (arith, high, few))
