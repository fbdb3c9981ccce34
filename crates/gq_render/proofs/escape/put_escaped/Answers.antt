use Rattle.std.proofs.Common.{ap, ◌∙◌, ◌++◌, ◌+◌, drop, flat_map, arith}
use Rattle.gq_render.specs.steps.Escapes.{byte_text}
use Rattle.gq_base.proofs.ListFacts.{flat_map_split}
use Rattle.gq_render.proofs.Runs.{run_none, run_more, run_ends, run_last}
use Rattle.gq_render.proofs.Sequence.{next_broke, put_then, puts_then}
use Rattle.gq_render.proofs.escape.put_escaped.Goals as goal
use Rattle.gq_render.proofs.escape.put_escaped.Goals.{in-Some+in_ok-put_run, in_default}

pub returns-in_err-put_run-clause-bytes : goal.returns-in_err-put_run-clause-bytes
returns-in_err-put_run-clause-bytes g c =
    let rest = flat_map (byte_text c.args.escaping) (drop (c.loop-at.at + 1) c.args.text.now) in
    next_broke _ _ _ _ _ _ _ _ _ _ rest _ _ _ _ c.loop-at.invariant.1 c.put_run.ensures.bytes c.in_err-put_run.was c.from_residual.ensures.1
    (ap (λ l. l ++ rest) (run_ends _ _ _ _ _ c.loop-at-test.true c.in-Some.ensures c.loop-at.invariant.0) ∙ flat_map_split (byte_text c.args.escaping) c.args.text.now (c.loop-at.at + 1))

pub loop-at-preserved : goal.loop-at-preserved
loop-at-preserved g c = elim c.match-escape_of.branch [
  | in-Some+in_ok-put_run w ↦ rw (w.start-is, w.batch-is, w.out-is) (
    run_none _ _ _,
    put_then _ _ _ _ _ _ _ _ _ c.loop-at.invariant.1 w.in_ok-put_run.ensures.bytes (run_ends _ _ _ _ _ c.loop-at-test.true w.in-Some.ensures c.loop-at.invariant.0),
    w.in_ok-put_run.ensures.cause.kept ∙ c.loop-at.invariant.2,
  )
  | in_default w ↦ rw (w.start-is, w.batch-is, w.out-is) (run_more _ _ _ _ c.loop-at-test.true w.in_default.ensures c.loop-at.invariant.0, c.loop-at.invariant.1, c.loop-at.invariant.2)
]

pub returns-clause-bytes : goal.returns-clause-bytes
returns-clause-bytes g c = puts_then _ _ _ _ _ _ _ _ _ _ c.loop-at.invariant.1 c.put.ensures.bytes (run_last _ _ _ _ (omega arith) c.loop-at.invariant.0)
