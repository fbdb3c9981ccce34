use Rattle.std.proofs.Common.{◌≡◌, ◌≤◌, ◌-◌, ◌&&◌, ℕ, List, Option, Some, false, sym, subst}
use Rattle.gq_bits.specs.Places.{is_marked}
use Rattle.gq_filter.specs.RowTests.{RowCondition, is_true_of}
use Rattle.gq_filter.specs.Rows.{count_in, row_in, with_row}
use Rattle.gq_filter.specs.declared.source.Feed.{Feed}
use Rattle.gq_filter.specs.declared.lane_test.LaneTest.{LaneTest}
use Rattle.gq_filter.specs.declared.rows.Rows.{Rows}
use Rattle.gq_filter.specs.steps.Recalling.{TellsOf, TellsTest}
use Rattle.gq_filter.specs.steps.RowCells.{AreInside, DecidesRows}
use Rattle.gq_filter.proofs.RowLanes.{all_inside}
use Rattle.gq_filter.proofs.Spanned.{list_kept, span_kept}
use Rattle.gq_filter.proofs.Taking.{standing_kept}
use Rattle.gq_filter.proofs.row_test.RowTest.keep_rows.Goals as goal

pub keep-requires-clause-tells : goal.keep-requires-clause-tells
keep-requires-clause-tells c =
    let i = c.self.inside in
    let at_items = subst {A = Option LaneTest} (λ t. TellsOf i.feeds.items t i.recall.passed.told) c.in-Some.is c.self.invariant.4 in
    subst (λ (feeds : List Feed). TellsTest feeds c.in-Some.test i.recall.passed.told) (sym c.as_slice-feeds.ensures.value) at_items

pub invariant_of-self : goal.invariant_of-self
invariant_of-self c =
    let i = c.self.inside in
    let told = c.keep.new.self.passed.told in
    let at_items = subst (λ (feeds : List Feed). TellsTest feeds c.in-Some.test told) c.as_slice-feeds.ensures.value c.keep.ensures.tells in
    (c.self.invariant.0, c.self.invariant.1, c.self.invariant.2, c.self.invariant.3, subst {A = Option LaneTest} (λ t. TellsOf i.feeds.items t told) (sym c.in-Some.is) at_items, c.self.invariant.5, c.self.invariant.6)

pub returns-then-are_spanned-clause-kept : goal.returns-then-are_spanned-clause-kept
returns-then-are_spanned-clause-kept c =
    let i = c.self.inside in
    let at_items = subst {A = Option LaneTest} (DecidesRows i.graph.now i.typed.now i.condition.now i.feeds.items) c.in-Some.is c.self.invariant.1 in
    let decides = subst (λ (feeds : List Feed). DecidesRows i.graph.now i.typed.now i.condition.now feeds (Some c.in-Some.test)) (sym c.as_slice-feeds.ensures.value) at_items in
    λ k. subst (λ (s : RowCondition). is_marked c.keep.new.marks k ≡ (is_marked c.args.marks.now k && is_true_of s (with_row c.args.variable (row_in c.args.rows k) c.args.row.now))) c.self.view_is
    (subst (λ (r : Rows). is_marked c.keep.new.marks k ≡ (is_marked c.args.marks.now k && is_true_of (record { graph = i.graph.now; typed = i.typed.now; condition = i.condition.now }) (with_row c.args.variable (row_in r k) c.args.row.now))) (sym c.in-List.is)
    (list_kept i.graph.now i.typed.now i.condition.now c.as_slice-feeds.result.now _ decides c.args.variable (c.are_spanned.ensures c.if-are_spanned.true) c.args.row.now c.requires.variable c.in-List.list.now c.args.marks.now c.keep.new.marks c.keep.ensures.kept k))

pub invariant_of-held : goal.invariant_of-held
invariant_of-held c =
    let i = c.self.inside in
    record {
      inside = subst (AreInside i.graph.now) (sym c.as_slice-feeds.ensures.value) (all_inside i.graph.now i.typed.now i.feeds.items c.self.invariant.0);
      there = c.requires.variable;
    }

pub returns-else-are_spanned-clause-kept : goal.returns-else-are_spanned-clause-kept
returns-else-are_spanned-clause-kept c =
    let i = c.self.inside in
    let at_items = subst {A = Option LaneTest} (DecidesRows i.graph.now i.typed.now i.condition.now i.feeds.items) c.in-Some.is c.self.invariant.1 in
    let decides = subst (λ (feeds : List Feed). DecidesRows i.graph.now i.typed.now i.condition.now feeds (Some c.in-Some.test)) (sym c.as_slice-feeds.ensures.value) at_items in
    λ k. subst (λ (s : RowCondition). is_marked c.keep_standing.new.marks k ≡ (is_marked c.args.marks.now k && is_true_of s (with_row c.args.variable (row_in c.args.rows k) c.args.row.now))) c.self.view_is
    (subst (λ (r : Rows). is_marked c.keep_standing.new.marks k ≡ (is_marked c.args.marks.now k && is_true_of (record { graph = i.graph.now; typed = i.typed.now; condition = i.condition.now }) (with_row c.args.variable (row_in r k) c.args.row.now))) (sym c.in-List.is)
    (standing_kept i.graph.now i.typed.now i.condition.now c.as_slice-feeds.result.now c.in-Some.test decides c.args.variable c.args.row.now c.in-List.list.now c.args.marks.now c.keep_standing.new.marks c.keep_standing.ensures k))

pub returns-then-are_spanned-2-clause-kept : goal.returns-then-are_spanned-2-clause-kept
returns-then-are_spanned-2-clause-kept c =
    let i = c.self-in-Span.inside in
    let at_items = subst {A = Option LaneTest} (DecidesRows i.graph.now i.typed.now i.condition.now i.feeds.items) c.in-Some-test.is c.self-in-Span.invariant.1 in
    let decides = subst (λ (feeds : List Feed). DecidesRows i.graph.now i.typed.now i.condition.now feeds (Some c.in-Some-test.test)) (sym c.as_slice-feeds-in-Some-test.ensures.value) at_items in
    let within : (k : ℕ) → c.in-Span.high - c.in-Span.low ≤ k → is_marked c.args.marks.now k ≡ false =
    subst (λ (r : Rows). (k : ℕ) → count_in r ≤ k → is_marked c.args.marks.now k ≡ false) c.in-Span.is c.requires.within in
    λ k. subst (λ (s : RowCondition). is_marked c.keep_lanes.new.marks k ≡ (is_marked c.args.marks.now k && is_true_of s (with_row c.args.variable (row_in c.args.rows k) c.args.row.now))) c.self-in-Span.view_is
    (subst (λ (r : Rows). is_marked c.keep_lanes.new.marks k ≡ (is_marked c.args.marks.now k && is_true_of (record { graph = i.graph.now; typed = i.typed.now; condition = i.condition.now }) (with_row c.args.variable (row_in r k) c.args.row.now))) (sym c.in-Span.is)
    (span_kept i.graph.now i.typed.now i.condition.now c.as_slice-feeds-in-Some-test.result.now _ decides c.args.variable c.in-Span.low c.in-Span.high (c.are_spanned-then-low-high.ensures c.if-are_spanned-2.true) c.args.row.now c.requires.variable c.args.marks.now c.keep_lanes.new.marks within c.keep_lanes.ensures k))
