use Rattle.std.proofs.Common.{◌≡◌, ◌∙◌, true, is_some, sym, subst}
use Rattle.gq_filter.specs.RowTests.{ReadsRows}
use Rattle.gq_filter.specs.steps.RowCells.{AreOfNodes}
use Rattle.gq_filter.proofs.RowLanes.{rows_only}
use Rattle.gq_filter.proofs.Texts.{text_alone}
use Rattle.gq_filter.proofs.row_test.RowTest.reads_rows.Goals as goal

pub returns-then-is_some : goal.returns-then-is_some
returns-then-is_some c = λ on.
    let i = c.self.inside in
    let some : is_some i.text ≡ true = sym c.is_some.ensures ∙ c.if-is_some.true in
    subst ReadsRows c.self.view_is (λ old new same. text_alone i.graph.now i.typed.now i.condition.now i.text some c.self.invariant.2 old new same)

pub returns-then-is_some-2 : goal.returns-then-is_some-2
returns-then-is_some-2 c = λ on.
    let i = c.self.inside in
    let some : is_some i.test ≡ true = sym c.is_some-2.ensures ∙ c.if-is_some-2.true in
    let nodes : AreOfNodes i.feeds.items = subst AreOfNodes c.as_slice.ensures.value (c.are_of_nodes.ensures on) in
    subst ReadsRows c.self.view_is (λ old new same. rows_only i.graph.now i.typed.now i.condition.now i.feeds.items i.test some c.self.invariant.1 nodes old new same)
