use Rattle.std.proofs.Common.{◌∙◌, ap, refl, subst, sym, Some, Ok, Err}
use Rattle.gq_group.specs.Groups.{choices}
use Rattle.gq_law_plans.specs.Safe.{IsMade}
use Rattle.gq_pipe.specs.Bound.{binds_all}
use Rattle.gq_pipe.specs.Progress.{Source, plan_in}
use Rattle.gq_pipe.specs.Rest.{counted}
use Rattle.gq_kept.specs.Chunks.{assignments_of}
use Rattle.gq_kept.proofs.Chunking.{same_again, same_table}
use Rattle.gq_kept.specs.declared.refusal.More.TheVariants as more
use Rattle.gq_drain.specs.Taking.{IsPlain}
use Rattle.gq_drain.proofs.Drained.{all_taken, bag_here, chunk_in, counted_here, counted_more, counted_none, each_parted, full_here, has_choice, in_order, less_owed, made_here, met, pushed_more, pushed_none, ready_back, ready_here, run_full, run_out, taken_here}
use Rattle.gq_drain.proofs.draining.drain.Goals as goal

pub chunks-init : goal.chunks-init
chunks-init t c = record {
  ready = c.requires.ready;
  becomes = refl;
  made = c.requires.made;
  run = c.requires.run;
  same = same_table c.args.table.now;
  source = refl;
  columns = refl;
  held = refl;
  serves = c.requires.serves;
  slots = refl;
  room = c.requires.room;
  some = c.requires.stands;
  came = pushed_none _ _ _ _;
  counted = counted_none _ _ c.requires.fresh;
}

pub push-requires-clause-ready : goal.push-requires-clause-ready
push-requires-clause-ready t c = ready_here (t.P.TakesChunks.ready c.chunks.taker) c.args.table.now c.chunks.table c.chunks.invariant.same c.chunks.invariant.ready

pub push-requires-clause-chunk : goal.push-requires-clause-chunk
push-requires-clause-chunk t c =
    let i = c.chunks.invariant in
    let source = c.advance.ensures.source in
    chunk_in c.chunks.table.graph c.advance.new.self.source c.chunks.table.alternative c.chunk-chunk.result (ap (λ (s : Source). s.graph) source ∙ i.run.graph ∙ sym i.same.graph)
    (i.run.alternative ∙ ap (λ (s : Source). Some s.typed) (sym source)) c.chunk-chunk.ensures.chunk

pub push-requires-clause-made : goal.push-requires-clause-made
push-requires-clause-made t c = λ y started.
    let i = c.chunks.invariant in
    let g = c.args.table.now.graph in
    let begun = c.args.pipeline.now in
    let after = c.advance.new.self in
    let chunk = c.chunk-chunk.result in
    let source = c.advance.ensures.source in
    let here = bag_here g begun.source.typed after.source chunk after.chunk (ap (λ (s : Source). s.graph) source ∙ i.run.graph) (ap (λ (s : Source). s.typed) (source ∙ i.source)) (in_order _ _ (c.chunk-chunk.ensures.whole (ap (λ (s : Source). binds_all s.typed (plan_in s)) source ∙ i.run.complete))) in
    let z = begun.source.typed in
    made_here g c.chunks.table.graph z y c.chunks.table.alternative chunk i.same.graph (i.run.alternative ∙ ap (λ (s : Source). Some s.typed) i.source)
    (each_parted (IsMade g z) z c.chunks.pipeline after (assignments_of g z chunk) (c.advance.ensures.bag c.chunks-test.true) here i.made).0 started

pub push-requires-clause-started : goal.push-requires-clause-started
push-requires-clause-started t c = rw c.chunks.invariant.run.alternative refl

pub chunks-smaller : goal.chunks-smaller
chunks-smaller t c = less_owed c.chunks.pipeline.owed c.advance.new.self.chunk c.advance.new.self.owed (c.advance.ensures.bag c.chunks-test.true) (c.advance.ensures.some c.chunks-test.true)

pub chunks-preserved : goal.chunks-preserved
chunks-preserved t c =
    let i = c.chunks.invariant in
    let old = c.args.table.now in
    let g = old.graph in
    let new = c.push.new.table in
    let begun = c.args.pipeline.now in
    let after = c.advance.new.self in
    let chunk = c.chunk-chunk.result in
    let source = c.advance.ensures.source in
    let f = t.P.TakesChunks.becomes c.chunks.taker in
    let h = t.P.TakesChunks.becomes c.args.taker.now in
    let started = i.run.alternative ∙ ap (λ (s : Source). Some s.typed) i.source in
    let bag = c.advance.ensures.bag c.chunks-test.true in
    let here = bag_here g begun.source.typed after.source chunk after.chunk (ap (λ (s : Source). s.graph) source ∙ i.run.graph) (ap (λ (s : Source). s.typed) (source ∙ i.source)) (in_order _ _ (c.chunk-chunk.ensures.whole (ap (λ (s : Source). binds_all s.typed (plan_in s)) source ∙ i.run.complete))) in
    let some = c.advance.ensures.some c.chunks-test.true in
    let pushes = taken_here f h g old.bound c.chunks.table new chunk begun.source.typed (Ok more.Go) i.becomes i.same.graph i.same.bound (rw c.in-Ok-Go.field-0-is at c.in-Ok-Go.ensures.pushes begun.source.typed started) in
    let query = c.in-Ok-Go.ensures.query in
    record {
      ready = ready_back (t.P.TakesChunks.ready c.push.new.self) old c.chunks.table i.same c.in-Ok-Go.ensures.ready;
      becomes = c.in-Ok-Go.ensures.becomes ∙ i.becomes;
      made = (each_parted (IsMade g begun.source.typed) begun.source.typed c.chunks.pipeline after (assignments_of g begun.source.typed chunk) bag here i.made).1;
      run = record {
        graph = ap (λ (s : Source). s.graph) source ∙ i.run.graph;
        alternative = query.alternative ∙ i.run.alternative ∙ ap (λ (s : Source). Some s.typed) (sym source);
        started = query.graph ∙ i.run.started;
        complete = ap (λ (s : Source). binds_all s.typed (plan_in s)) source ∙ i.run.complete;
      };
      same = same_again old c.chunks.table new i.same query;
      source = source ∙ i.source;
      columns = c.advance.ensures.columns ∙ i.columns;
      held = c.advance.ensures.held ∙ i.held;
      serves = c.advance.ensures.serves;
      slots = c.advance.ensures.pool ∙ i.slots;
      room = pushes.1;
      some = (_, pushes.0 i.some.0 i.some.1);
      came = pushed_more h g old begun c.chunks.table c.chunks.pipeline after i.came i.same.bound i.same.most chunk bag here new pushes.0;
      counted = counted_more old begun c.chunks.table new c.chunks.pipeline after i.counted bag some (c.advance.ensures.next_key c.chunks-test.true)
          (c.advance.ensures.chunks ∙ ap (λ k. counted k c.chunks.pipeline.chunks) c.chunks-test.true)
          (λ plain. counted_here c.chunks.table.pushed new.pushed (choices chunk.groups.now) (c.in-Ok-Go.ensures.counted (subst IsPlain (sym i.same.bound) plain)) (has_choice g begun.source.typed chunk after.chunk here some));
    }

pub returns-in-Ok-Enough : goal.returns-in-Ok-Enough
returns-in-Ok-Enough t c =
    let i = c.chunks.invariant in
    let old = c.args.table.now in
    let g = old.graph in
    let new = c.push.new.table in
    let begun = c.args.pipeline.now in
    let after = c.advance.new.self in
    let chunk = c.chunk-chunk.result in
    let source = c.advance.ensures.source in
    let f = t.P.TakesChunks.becomes c.chunks.taker in
    let h = t.P.TakesChunks.becomes c.args.taker.now in
    let started = i.run.alternative ∙ ap (λ (s : Source). Some s.typed) i.source in
    let bag = c.advance.ensures.bag c.chunks-test.true in
    let here = bag_here g begun.source.typed after.source chunk after.chunk (ap (λ (s : Source). s.graph) source ∙ i.run.graph) (ap (λ (s : Source). s.typed) (source ∙ i.source)) (in_order _ _ (c.chunk-chunk.ensures.whole (ap (λ (s : Source). binds_all s.typed (plan_in s)) source ∙ i.run.complete))) in
    let some = c.advance.ensures.some c.chunks-test.true in
    let pushes = taken_here f h g old.bound c.chunks.table new chunk begun.source.typed (Ok more.Enough) i.becomes i.same.graph i.same.bound (rw c.in-Ok-Enough.field-0-is at c.in-Ok-Enough.ensures.pushes begun.source.typed started) in
    let query = c.in-Ok-Enough.ensures.query in
    record {
      takes = full_here h g old begun c.chunks.table c.chunks.pipeline after i.came i.same.bound i.same.most chunk bag here new query.bound query.most pushes.0 pushes.1;
      ran = run_full old begun c.chunks.table new c.chunks.pipeline after i.counted bag some (c.advance.ensures.next_key c.chunks-test.true)
          (c.advance.ensures.chunks ∙ ap (λ k. counted k c.chunks.pipeline.chunks) c.chunks-test.true)
          (λ plain. counted_here c.chunks.table.pushed new.pushed (choices chunk.groups.now) (c.in-Ok-Enough.ensures.counted (subst IsPlain (sym i.same.bound) plain)) (has_choice g begun.source.typed chunk after.chunk here some)) pushes.1;
      graph = query.graph ∙ i.same.graph;
      columns = c.advance.ensures.columns ∙ i.columns;
      held = c.advance.ensures.held ∙ i.held;
      serves = c.advance.ensures.serves;
      slots = c.advance.ensures.pool ∙ i.slots;
    }

pub returns-in-Err : goal.returns-in-Err
returns-in-Err t c =
    let i = c.chunks.invariant in
    let old = c.args.table.now in
    let g = old.graph in
    let new = c.push.new.table in
    let begun = c.args.pipeline.now in
    let after = c.advance.new.self in
    let chunk = c.chunk-chunk.result in
    let source = c.advance.ensures.source in
    let f = t.P.TakesChunks.becomes c.chunks.taker in
    let h = t.P.TakesChunks.becomes c.args.taker.now in
    let started = i.run.alternative ∙ ap (λ (s : Source). Some s.typed) i.source in
    let bag = c.advance.ensures.bag c.chunks-test.true in
    let here = bag_here g begun.source.typed after.source chunk after.chunk (ap (λ (s : Source). s.graph) source ∙ i.run.graph) (ap (λ (s : Source). s.typed) (source ∙ i.source)) (in_order _ _ (c.chunk-chunk.ensures.whole (ap (λ (s : Source). binds_all s.typed (plan_in s)) source ∙ i.run.complete))) in
    let pushes = taken_here f h g old.bound c.chunks.table new chunk begun.source.typed (Err c.in-Err.refusal) i.becomes i.same.graph i.same.bound (c.in-Err.ensures.pushes begun.source.typed started) in
    record {
      takes = met h g old begun c.chunks.table c.chunks.pipeline after i.came i.same.bound i.same.most chunk bag here new c.in-Err.refusal pushes;
      ran = tt;
      graph = tt;
      columns = c.advance.ensures.columns ∙ i.columns;
      held = c.advance.ensures.held ∙ i.held;
      serves = c.advance.ensures.serves;
      slots = c.advance.ensures.pool ∙ i.slots;
    }

pub returns : goal.returns
returns t c =
    let i = c.chunks.invariant in
    let old = c.args.table.now in
    let none = c.advance.ensures.none c.chunks-test.false in
    record {
      takes = all_taken (t.P.TakesChunks.becomes c.args.taker.now) old.graph old c.args.pipeline.now c.chunks.table c.chunks.pipeline i.came i.same.bound i.same.most none;
      ran = run_out old c.args.pipeline.now c.chunks.table c.chunks.pipeline c.advance.new.self i.counted none (c.advance.ensures.no_keys c.chunks-test.false)
          (c.advance.ensures.chunks ∙ ap (λ k. counted k c.chunks.pipeline.chunks) c.chunks-test.false);
      graph = i.same.graph;
      columns = c.advance.ensures.columns ∙ i.columns;
      held = c.advance.ensures.held ∙ i.held;
      serves = c.advance.ensures.serves;
      slots = c.advance.ensures.pool ∙ i.slots;
    }
