use Rattle.std.proofs.Common.{◌∙◌, ap, refl, subst, sym, true≢false}
use Rattle.gq_kept.specs.Chunks.{PushesAll, admitted_outcomes}
use Rattle.gq_kept.proofs.Chunking.{all_admitted}
use Rattle.gq_drain.specs.Testing.{admitted_by}
use Rattle.gq_drain.proofs.Drained.{pushes_here}
use Rattle.gq_drain.proofs.chunks.WholeTakesChunks.push.Goals as goal

pub returns-then-is_empty-clause-pushes : goal.returns-then-is_empty-clause-pushes
returns-then-is_empty-clause-pushes c = λ y started.
    let old = c.args.table.now in
    let g = old.graph in
    let chunk = c.args.chunk.now in
    let all = c.args.self.now.tests.now.all in
    pushes_here (admitted_by all) g old.bound y old c.push_chunk.new.self chunk c.push_chunk.result refl refl started
    (subst (λ os. PushesAll os old c.push_chunk.new.self c.push_chunk.result)
    (sym (ap (λ ts. admitted_outcomes (admitted_by ts) g old.bound old.alternative chunk) (c.is_empty.ensures.0 c.if-is_empty.true) ∙ all_admitted g old.bound old.alternative chunk)) c.push_chunk.ensures.pushes)

pub returns-clause-pushes : goal.returns-clause-pushes
returns-clause-pushes c = λ y started.
    let old = c.args.table.now in
    pushes_here (admitted_by c.args.self.now.tests.now.all) old.graph old.bound y old c.push_admitted.new.self c.args.chunk.now c.push_admitted.result refl refl started c.push_admitted.ensures.pushes

pub push_admitted-requires-clause-tested : goal.push_admitted-requires-clause-tested
push_admitted-requires-clause-tested c = c.requires.ready (λ none. true≢false (sym (c.is_empty.ensures.1 none) ∙ c.if-is_empty.false))
