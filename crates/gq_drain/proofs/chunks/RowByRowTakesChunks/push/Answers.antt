use Rattle.std.proofs.Common.{◌∙◌, ap, subst, sym}
use Rattle.std.specs.List.{AllByRecursion}
use Rattle.gq_law_plans.specs.Safe.{IsMade}
use Rattle.gq_kept.specs.Chunks.{PushesAll, assignments_of}
use Rattle.gq_drain.specs.Becoming.{outcomes_by}
use Rattle.gq_drain.specs.steps.Continued.{Continuation, ended_by}
use Rattle.gq_drain.proofs.Drained.{chunk_of, same_alternative}
use Rattle.gq_drain.proofs.chunks.RowByRowTakesChunks.push.Goals as goal

pub push_rows-requires-clause-ready : goal.push_rows-requires-clause-ready
push_rows-requires-clause-ready t c = c.requires.ready.0

pub push_rows-requires-clause-continued : goal.push_rows-requires-clause-continued
push_rows-requires-clause-continued t c = c.requires.ready.1.continued

pub push_rows-requires-clause-graph : goal.push_rows-requires-clause-graph
push_rows-requires-clause-graph t c = c.requires.ready.1.graph

pub push_rows-requires-clause-typed : goal.push_rows-requires-clause-typed
push_rows-requires-clause-typed t c = c.requires.ready.1.typed_is

pub push_rows-requires-clause-over : goal.push_rows-requires-clause-over
push_rows-requires-clause-over t c = sym c.requires.ready.1.here

pub push_rows-requires-clause-chunk : goal.push_rows-requires-clause-chunk
push_rows-requires-clause-chunk t c =
    let h = c.requires.ready.1 in
    let s = c.args.self.now in
    chunk_of s.graph.now c.args.table.now.graph s.typed.now c.args.table.now.alternative c.args.chunk.now (sym h.here) h.alternative c.requires.chunk

pub push_rows-requires-clause-made : goal.push_rows-requires-clause-made
push_rows-requires-clause-made t c =
    let h = c.requires.ready.1 in
    let y = c.args.self.now.typed.now in
    subst (λ g. AllByRecursion (IsMade g y) (assignments_of g y c.args.chunk.now)) (sym h.here) (c.requires.made y h.alternative)

pub returns-clause-pushes : goal.returns-clause-pushes
returns-clause-pushes t c = λ y started.
    let h = c.requires.ready.1 in
    let s = c.args.self.now in
    let old = c.args.table.now in
    let becomes = ended_by (t.C.Continues.continuation s.rows).rows in
    let same = same_alternative old.alternative s.typed.now y h.alternative started in
    subst (λ os. PushesAll os old c.push_rows.new.table c.push_rows.result) (λ i. outcomes_by becomes (h.here i) old.bound (same i) (assignments_of (h.here i) (same i) c.args.chunk.now)) c.push_rows.ensures.pushes

pub returns-clause-counted : goal.returns-clause-counted
returns-clause-counted t c = λ plain. absurd (c.requires.ready.1.continued plain.0 plain.1)

pub returns-clause-ready : goal.returns-clause-ready
returns-clause-ready t c =
    let h = c.requires.ready.1 in
    let same = c.push_rows.ensures.same in (
      c.push_rows.ensures.ready,
      record {
        continued = h.continued;
        graph = ap (λ (w : Continuation). w.graph) same ∙ h.graph;
        typed_is = ap (λ (w : Continuation). w.typed) same ∙ h.typed_is;
        here = h.here;
        alternative = h.alternative;
      },
    )

pub returns-clause-becomes : goal.returns-clause-becomes
returns-clause-becomes t c = ap (λ (w : Continuation). ended_by w.rows) c.push_rows.ensures.same
