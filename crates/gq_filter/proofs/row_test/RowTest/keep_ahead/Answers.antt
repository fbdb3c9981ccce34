use Rattle.std.proofs.Common.{◌≡◌, ◌∙◌, ◌&&◌, Option, subst}
use Rattle.gq_bits.specs.Places.{is_marked}
use Rattle.gq_filter.specs.RowTests.{RowCondition, is_true_of}
use Rattle.gq_filter.specs.Rows.{row_in, with_row}
use Rattle.gq_filter.specs.declared.text_test.PartTest.{PartTest}
use Rattle.gq_filter.specs.steps.Texts.{AreKnown, TextDecides}
use Rattle.gq_filter.proofs.Codes.{rows_kept}
use Rattle.gq_filter.proofs.row_test.RowTest.keep_ahead.Goals as goal

pub keep-requires-clause-known : goal.keep-requires-clause-known
keep-requires-clause-known c = subst {A = Option PartTest} (λ t. AreKnown t c.self.inside.tried.known) c.in-Some.is c.self.invariant.5

pub returns-then-is_of-clause-kept : goal.returns-then-is_of-clause-kept
returns-then-is_of-clause-kept c =
    let i = c.self.inside in
    let decides = subst {A = Option PartTest} (TextDecides i.graph.now i.typed.now i.condition.now) c.in-Some.is c.self.invariant.2 in
    λ k. subst (λ (s : RowCondition). is_marked c.keep.new.marks k ≡ (is_marked c.args.marks.now k && is_true_of s (with_row c.args.variable (row_in c.args.rows k) c.args.row.now))) (c.self.view_is ∙ c.ask_codes.ensures)
    (rows_kept i.graph.now i.typed.now i.condition.now c.in-Some.text decides c.args.variable (c.is_of.ensures c.if-is_of.true) c.args.row.now c.requires.variable c.args.rows c.args.marks.now c.keep.new.marks c.keep.ensures k)
