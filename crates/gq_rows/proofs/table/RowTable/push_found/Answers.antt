use Rattle.std.proofs.Common.{◌≡◌, Some, false, subst, sym}
use Rattle.gq_group.specs.Chunks.{IsChunkOf}
use Rattle.gq_kept.specs.Chunks.{PushesAll, admitted_outcomes}
use Rattle.gq_kept.specs.Tables.{StandsForSome, Table, is_full_table}
use Rattle.gq_rows.specs.steps.Inner.{table_with}
use Rattle.gq_rows.specs.steps.Sinks.{held_by}
use Rattle.gq_rows.proofs.Insides.{all_of_table}
use Rattle.gq_rows.proofs.table.RowTable.push_found.Goals as goal

pub prepare-requires : goal.prepare-requires
prepare-requires t c = c.self.invariant.ready

pub push_choices-requires-clause-chunk : goal.push_choices-requires-clause-chunk
push_choices-requires-clause-chunk t c = subst (λ (x : Table). IsChunkOf x.graph c.args.typed.now c.args.chunk.now) (sym c.self.view_is) c.requires.chunk

pub push_choices-requires-clause-first : goal.push_choices-requires-clause-first
push_choices-requires-clause-first t c = c.self.invariant.first

pub push_choices-requires-clause-sure : goal.push_choices-requires-clause-sure
push_choices-requires-clause-sure t c = c.self.invariant.sure

pub push_choices-requires-clause-stands : goal.push_choices-requires-clause-stands
push_choices-requires-clause-stands t c = let s = subst StandsForSome (sym c.self.view_is) c.requires.stands in (s.0, s.1)

pub push_choices-requires-clause-room : goal.push_choices-requires-clause-room
push_choices-requires-clause-room t c = subst (λ x. is_full_table x ≡ false) (sym c.self.view_is) c.requires.room

pub returns-clause-pushes : goal.returns-clause-pushes
returns-clause-pushes t c =
    let i = c.self.inside in
    let admitted = t.A.Admits.admitted c.args.admits.now in
    let new = held_by c.push_choices.new.sink in
    let os = admitted_outcomes admitted i.graph.now i.bound.now (Some c.args.typed.now) c.args.chunk.now in
    subst (λ (x : Table). PushesAll (admitted_outcomes admitted x.graph x.bound (Some c.args.typed.now) c.args.chunk.now) x (table_with i new) c.push_choices.result) c.self.view_is
    (all_of_table i i.graph.now (held_by i.sink) new os c.push_choices.result c.push_choices.ensures.pushes)
