use Rattle.std.proofs.Common.{◌≡◌, ◌∙◌, ℕ, ap, arith, map}
use Rattle.gq_group.specs.Groups.{choices}
use Rattle.gq_pipe.specs.Bound.{binds_all}
use Rattle.gq_pipe.specs.Progress.{Source, plan_in}
use Rattle.gq_plan.specs.Keys.{key_of}
use Rattle.gq_plan.specs.Meaning.{whole}
use Rattle.gq_exists.specs.steps.Gathered.{keys_at}
use Rattle.gq_exists.proofs.Filling.{chunk_keys, filled_all, filled_first, filled_more, filled_none, filled_stops, less_owed, some_choices}
use Rattle.gq_pipe.specs.Rest.{counted}
use Rattle.gq_exists.proofs.Spent.{counted_more, counted_none, run_first, run_out}
use Rattle.gq_exists.proofs.key_set.fill.Goals as goal
use Rattle.gq_exists.proofs.key_set.fill.Goals.{After-chunk-chunk}

-- what the chunk has, told of the alternative
here : (c : After-chunk-chunk) (w : ℕ) → keys_at c.args.typed.now w c.chunk-chunk.result (choices c.chunk-chunk.result.groups.now) ≡ map (key_of w) (map (whole c.args.typed.now) c.advance.new.self.chunk)
here c w =
    let begun = c.args.pipeline.now.source in
    let same = c.advance.ensures.source ∙ c.chunks.invariant.source in
    let complete = ap (λ (s : Source). binds_all s.typed (plan_in s)) same ∙ ap (λ z. binds_all z (plan_in begun)) c.requires.typed ∙ c.requires.complete in
    chunk_keys c.args.typed.now w c.advance.new.self.source c.chunk-chunk.result c.advance.new.self.chunk (ap (λ (s : Source). s.typed) same ∙ c.requires.typed) (c.chunk-chunk.ensures.whole complete)

pub take_chunk-requires-clause-some : goal.take_chunk-requires-clause-some
take_chunk-requires-clause-some c =
    let w = c.chunks.gathering.width in
    some_choices c.args.typed.now w c.chunk-chunk.result c.advance.new.self.chunk (here (goal.at.take_chunk-requires-clause-some c).After-chunk-chunk w) (c.advance.ensures.some c.chunks-test.true)

pub chunks-init : goal.chunks-init
chunks-init c = record {
  source = λ i. c.args.pipeline.now.source;
  columns = λ i. c.args.pipeline.now.columns;
  held = λ i. c.args.pipeline.now.slots;
  serves = c.requires.serves;
  slots = λ i. c.args.pool.now.out;
  fresh = λ z. c.requires.fresh;
  counted = counted_none c.args.pipeline.now c.requires.fresh;
  filled = filled_none c.args.typed.now c.args.pipeline.now c.args.gathering.now c.requires.is;
}

pub chunks-smaller : goal.chunks-smaller
chunks-smaller c = less_owed c.chunks.pipeline.owed c.advance.new.self.chunk c.advance.new.self.owed (c.advance.ensures.bag c.chunks-test.true) (c.advance.ensures.some c.chunks-test.true)

pub chunks-preserved : goal.chunks-preserved
chunks-preserved c =
    let i = c.chunks.invariant in
    record {
      source = c.advance.ensures.source ∙ i.source;
      columns = c.advance.ensures.columns ∙ i.columns;
      held = c.advance.ensures.held ∙ i.held;
      serves = c.advance.ensures.serves;
      slots = c.advance.ensures.pool ∙ i.slots;
      fresh = λ z. absurd (omega (arith, z, c.if-gathering-eq0.false));
      counted = counted_more c.args.pipeline.now c.chunks.pipeline c.advance.new.self i.counted (c.advance.ensures.bag c.chunks-test.true) (c.advance.ensures.some c.chunks-test.true)
          (c.advance.ensures.next_key c.chunks-test.true) (c.advance.ensures.chunks ∙ ap (λ t. counted t c.chunks.pipeline.chunks) c.chunks-test.true);
      filled = filled_more c.args.typed.now c.args.pipeline.now c.args.gathering.now c.chunks.pipeline c.advance.new.self c.chunks.gathering i.filled (c.advance.ensures.bag c.chunks-test.true) c.chunk-chunk.result
          (here (goal.at.chunks-preserved c).After-chunk-chunk) c.take_chunk.new.self tt c.in-Ok.ensures;
    }

pub returns-in-Err-clause-gathers : goal.returns-in-Err-clause-gathers
returns-in-Err-clause-gathers c =
    filled_stops c.args.typed.now c.args.pipeline.now c.args.gathering.now c.chunks.pipeline c.advance.new.self c.chunks.gathering c.chunks.invariant.filled (c.advance.ensures.bag c.chunks-test.true) c.chunk-chunk.result
    (here (goal.at.returns-in-Err-clause-gathers c).After-chunk-chunk) c.take_chunk.new.self c.in-Err.refusal c.in-Err.ensures

pub returns-then-gathering-eq0-clause-gathers : goal.returns-then-gathering-eq0-clause-gathers
returns-then-gathering-eq0-clause-gathers c =
    let zero_wide = c.if-gathering-eq0.true in
    filled_first c.args.typed.now c.args.pipeline.now c.args.gathering.now c.chunks.pipeline c.advance.new.self c.chunks.gathering c.chunks.invariant.filled (c.advance.ensures.bag c.chunks-test.true) c.chunk-chunk.result
    (here (goal.at.returns-then-gathering-eq0-clause-gathers c).After-chunk-chunk) c.take_chunk.new.self tt c.in-Ok.ensures (omega (arith, zero_wide)) (c.advance.ensures.some c.chunks-test.true)

pub returns-clause-gathers : goal.returns-clause-gathers
returns-clause-gathers c =
    filled_all c.args.typed.now c.args.pipeline.now c.args.gathering.now c.chunks.pipeline c.chunks.gathering c.chunks.invariant.filled (c.advance.ensures.none c.chunks-test.false)

pub returns-then-gathering-eq0-clause-ran : goal.returns-then-gathering-eq0-clause-ran
returns-then-gathering-eq0-clause-ran c =
    let zero_wide = c.if-gathering-eq0.true in
    let was : c.args.gathering.now.width ≡ 0 = omega (arith, zero_wide, c.in-Ok.ensures.width, c.chunks.invariant.filled.took.width) in
    let stood : c.chunks.gathering.width ≡ 0 = omega (arith, zero_wide, c.in-Ok.ensures.width) in
    run_first c.args.pipeline.now c.chunks.pipeline c.advance.new.self c.chunks.invariant.counted (c.advance.ensures.bag c.chunks-test.true) (c.advance.ensures.some c.chunks-test.true)
    (c.advance.ensures.next_key c.chunks-test.true) (c.advance.ensures.chunks ∙ ap (λ t. counted t c.chunks.pipeline.chunks) c.chunks-test.true) c.args.gathering.now.width was (c.chunks.invariant.fresh stood)

pub returns-clause-ran : goal.returns-clause-ran
returns-clause-ran c =
    let stood : c.args.gathering.now.width ≡ 0 → c.chunks.pipeline.chunks ≡ 0 = λ z. c.chunks.invariant.fresh (c.chunks.invariant.filled.took.width ∙ z) in
    run_out c.args.pipeline.now c.chunks.pipeline c.advance.new.self c.chunks.invariant.counted c.args.gathering.now.width stood (c.advance.ensures.none c.chunks-test.false) (c.advance.ensures.no_keys c.chunks-test.false)
    (c.advance.ensures.chunks ∙ ap (λ t. counted t c.chunks.pipeline.chunks) c.chunks-test.false)
