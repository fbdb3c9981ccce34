use Rattle.std.proofs.Common.{◌≡◌, ◌∙◌, ap, map}
use Rattle.gq_group.specs.Chunks.{chunk_meaning}
use Rattle.gq_join.specs.Kept.{Growing}
use Rattle.gq_plan.specs.Meaning.{nothing}
use Rattle.gq_steps.specs.Given.{given}
use Rattle.gq_pipe.specs.Progress.{Source, plan_in}
use Rattle.gq_pipe.specs.Rest.{counted}
use Rattle.gq_pipe.proofs.Loading.{binds_in, came_more, counted_more, less_owed, refused}
use Rattle.gq_pipe.proofs.build.fill.Goals as goal
use Rattle.gq_pipe.proofs.build.fill.Goals.{After-chunk-chunk}

pub chunks-smaller : goal.chunks-smaller
chunks-smaller c = less_owed c.chunks.pipeline.owed c.advance.new.self.chunk c.advance.new.self.owed (c.advance.ensures.bag c.chunks-test.true) (c.advance.ensures.some c.chunks-test.true)

-- what the chunk binds, told of the graph, the alternative and the plan
chunk_binds : (c : After-chunk-chunk)
    → map (λ row. given c.args.typed.now row (plan_in c.args.pipeline.now.source) nothing) (chunk_meaning c.args.graph.now c.args.typed.now c.chunk-chunk.result) ≡ c.advance.new.self.chunk
chunk_binds c =
    let same = c.advance.ensures.source ∙ c.chunks.invariant.source in
    binds_in c.args.graph.now c.args.typed.now (plan_in c.args.pipeline.now.source) c.advance.new.self.source c.chunk-chunk.result c.advance.new.self.chunk
    (ap (λ (s : Source). s.graph) same ∙ c.requires.graph) (ap (λ (s : Source). s.typed) same ∙ c.requires.typed) (ap plan_in same) c.chunk-chunk.ensures.binds

pub chunks-preserved : goal.chunks-preserved
chunks-preserved c =
    let i = c.chunks.invariant in
    let y = c.args.typed.now in
    let side = plan_in c.args.pipeline.now.source in
    let all = chunk_meaning c.args.graph.now y c.chunk-chunk.result in
    let after = c.advance.new.self in
    let bag = c.advance.ensures.bag c.chunks-test.true in
    let pushed = c.in-Ok.ensures.pushed in
    record {
      source = c.advance.ensures.source ∙ i.source;
      columns = c.advance.ensures.columns ∙ i.columns;
      held = c.advance.ensures.held ∙ i.held;
      serves = c.advance.ensures.serves;
      slots = c.advance.ensures.pool ∙ i.slots;
      usable = ap (λ (b : Growing). b.usable) pushed;
      nodes = ap (λ (b : Growing). b.nodes) pushed ∙ i.nodes;
      rels = ap (λ (b : Growing). b.rels) pushed ∙ i.rels;
      came = came_more y side c.args.build.now c.chunks.build c.args.pipeline.now.owed c.chunks.pipeline.owed i.came after.chunk after.owed all bag (chunk_binds (goal.at.chunks-preserved c).After-chunk-chunk)
          c.push_chunk.new.self pushed c.in-Ok.ensures.room;
      counted = counted_more c.args.pipeline.now c.chunks.pipeline after i.counted bag (c.advance.ensures.some c.chunks-test.true) (c.advance.ensures.next_key c.chunks-test.true)
          (c.advance.ensures.chunks ∙ ap (λ t. counted t c.chunks.pipeline.chunks) c.chunks-test.true);
    }

pub returns-in-Err-clause-refused : goal.returns-in-Err-clause-refused
returns-in-Err-clause-refused c =
    let y = c.args.typed.now in
    let all = chunk_meaning c.args.graph.now y c.chunk-chunk.result in
    let after = c.advance.new.self in
    refused y (plan_in c.args.pipeline.now.source) c.args.build.now c.chunks.build c.args.pipeline.now.owed c.chunks.pipeline.owed c.chunks.invariant.came after.chunk after.owed all
    (c.advance.ensures.bag c.chunks-test.true) (chunk_binds (goal.at.returns-in-Err-clause-refused c).After-chunk-chunk) c.in-Err.refusal c.in-Err.ensures.refused
