use Rattle.std.proofs.Common.{◌≡◌, ◌∷◌, ◌∙◌, [], sym}
use Rattle.gq_expr.specs.declared.expr.Expr.TheVariants.{NodeProperty, Test}
use Rattle.gq_filter.proofs.Texts.{text_decides}
use Rattle.gq_filter.specs.steps.RowCells.{IsNodeFeedIn}
use Rattle.gq_filter.specs.steps.Texts.{tester_of}
use Rattle.gq_filter.proofs.text_test.text_test.Goals as goal

pub returns-in-Str : goal.returns-in-Str
returns-in-Str c =
    let g = c.args.graph.now in
    let y = c.args.typed.now in
    let variable = c.in-NodeProperty.variable in
    let name = c.in-NodeProperty.name in
    let part = c.in_ok-part-in-NodeProperty.part in
    let feed = c.in_ok-feed-in-NodeProperty.feed in
    let asked : c.args.condition.now.expr ≡ Test (NodeProperty variable name) (tester_of part ∷ []) = cc (c.get-asked.ensures, c.in-Test.is, c.get.ensures, c.in-NodeProperty.is, c.as_slice.ensures, c.in_ok-part-in-NodeProperty.ensures) in
    let found : IsNodeFeedIn g y feed = record {
      variable = variable;
      table = c.in_ok-table-in-NodeProperty.field-0.now;
      name = name;
      table_is = sym c.in_ok-table-in-NodeProperty.ensures.value;
      is = c.in_ok-feed-in-NodeProperty.ensures.some;
    } in
    text_decides g y c.args.condition.now feed part found asked (sym c.kind.ensures ∙ c.in-Str.is)
