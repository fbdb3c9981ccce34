use Rattle.std.proofs.Common.{◌∙◌, refl, true}
use Rattle.gq_group.specs.Chunks.{assignment_at}
use Rattle.gq_plan.specs.Assignments.{row_of}
use Rattle.gq_plan.specs.Rows.{assigned}
use Rattle.gq_listed.specs.Listed.{table_in}
use Rattle.gq_kept.proofs.Chunking.{came_first, came_full, came_next, came_some, here_is, refused}
use Rattle.gq_listed.proofs.Finding.{extends_again, extends_self, stay}
use Rattle.gq_listed.proofs.ListedRows.{within_is}
use Rattle.gq_listed.proofs.listed.Listed.push_choices.Goals as goal

pub choices-init : goal.choices-init
choices-init t c =
    let q = c.args.asked.now in
    record {
      room = c.requires.room;
      some = c.requires.stands;
      finders = c.requires.finders;
      more = extends_self c.args.self.now.cells.sources;
      came = came_first (t.A.Admits.admitted c.args.admits.now) q.graph.now c.args.typed.now c.args.chunk.now (table_in q c.args.self.now) true c.args.choice.now c.requires.begins;
    }

pub choices-preserved : goal.choices-preserved
choices-preserved t c =
    let admitted = t.A.Admits.admitted c.args.admits.now in
    let q = c.args.asked.now in
    let g = q.graph.now in
    let y = c.args.typed.now in
    let chunk = c.args.chunk.now in
    let old = table_in q c.args.self.now in
    let mid = table_in q c.choices.self in
    let i = c.choices.invariant in
    let row = assigned y (assignment_at g y chunk c.positions.result.now) in
    let is = within_is admitted q y c.requires.late (row_of row) ∙ here_is admitted g y chunk old q.bound.now row c.choices.choice.positions c.positions.result.now refl refl c.positions.ensures in
    let came = rw c.choices-test.true at i.came in
    let pushes = rw c.in-Ok-Go.field-0-is at c.in-Ok-Go.ensures.pushes in
    let new = table_in q c.push_spot.new.self in
    record {
      room = pushes.1;
      some = came_some admitted g y chunk old mid c.choices.choice came (record { bound = refl; most = refl; alternative = refl; graph = refl }) _ is new (record { bound = refl; most = refl; alternative = refl; graph = refl }) pushes.0 i.some;
      finders = stay _ _ c.in-Ok-Go.ensures.more _ c.args.finders.now i.finders;
      more = extends_again _ _ _ i.more c.in-Ok-Go.ensures.more;
      came = came_next admitted g y chunk old mid c.choices.choice came (record { bound = refl; most = refl; alternative = refl; graph = refl }) _ is new (record { bound = refl; most = refl; alternative = refl; graph = refl }) pushes.0 c.next-found.result c.next-found.new.self c.next-found.ensures;
    }

pub returns-in-Ok-Enough-clause-pushes : goal.returns-in-Ok-Enough-clause-pushes
returns-in-Ok-Enough-clause-pushes t c =
    let admitted = t.A.Admits.admitted c.args.admits.now in
    let q = c.args.asked.now in
    let g = q.graph.now in
    let y = c.args.typed.now in
    let chunk = c.args.chunk.now in
    let old = table_in q c.args.self.now in
    let mid = table_in q c.choices.self in
    let i = c.choices.invariant in
    let row = assigned y (assignment_at g y chunk c.positions.result.now) in
    let is = within_is admitted q y c.requires.late (row_of row) ∙ here_is admitted g y chunk old q.bound.now row c.choices.choice.positions c.positions.result.now refl refl c.positions.ensures in
    let came = rw c.choices-test.true at i.came in
    let pushes = rw c.in-Ok-Enough.field-0-is at c.in-Ok-Enough.ensures.pushes in
    (came_full admitted g y chunk old mid c.choices.choice came (record { bound = refl; most = refl; alternative = refl; graph = refl }) _ is (table_in q c.push_spot.new.self) (record { bound = refl; most = refl; alternative = refl; graph = refl }) pushes.0 pushes.1, pushes.1)

pub returns-in-Err-clause-pushes : goal.returns-in-Err-clause-pushes
returns-in-Err-clause-pushes t c =
    let admitted = t.A.Admits.admitted c.args.admits.now in
    let q = c.args.asked.now in
    let g = q.graph.now in
    let y = c.args.typed.now in
    let chunk = c.args.chunk.now in
    let old = table_in q c.args.self.now in
    let mid = table_in q c.choices.self in
    let i = c.choices.invariant in
    let row = assigned y (assignment_at g y chunk c.positions.result.now) in
    let is = within_is admitted q y c.requires.late (row_of row) ∙ here_is admitted g y chunk old q.bound.now row c.choices.choice.positions c.positions.result.now refl refl c.positions.ensures in
    let came = rw c.choices-test.true at i.came in
    refused admitted g y chunk old mid c.choices.choice came (record { bound = refl; most = refl; alternative = refl; graph = refl }) _ is (table_in q c.push_spot.new.self) c.in-Err.refusal c.in-Err.ensures.pushes

pub returns-in-Ok-Enough-clause-more : goal.returns-in-Ok-Enough-clause-more
returns-in-Ok-Enough-clause-more t c = extends_again _ _ _ c.choices.invariant.more c.in-Ok-Enough.ensures.more

pub returns-clause-more : goal.returns-clause-more
returns-clause-more t c = c.choices.invariant.more
