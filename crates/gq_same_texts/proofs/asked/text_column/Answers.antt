use Rattle.std.proofs.Common.{◌∙◌, refl, sym}
use Rattle.gq_filter.specs.declared.equalities.NodeColumn.{NodeColumn}
use Rattle.gq_filter.specs.steps.RowCells.{IsNodeFeedIn}
use Rattle.gq_same_texts.proofs.Asking.{text_cell}
use Rattle.gq_same_texts.proofs.asked.text_column.Goals as goal

pub returns-in-Str-clause-text : goal.returns-in-Str-clause-text
returns-in-Str-clause-text c =
    let g = c.args.graph.now in
    let y = c.args.typed.now in
    let feed = c.in_ok-feed.feed in
    let cells : NodeColumn = record { node = c.args.node; column = c.column.result } in
    let found : IsNodeFeedIn g y feed = record {
      variable = c.args.node;
      table = c.in_ok-table.field-0.now;
      name = c.args.name.now;
      table_is = sym c.in_ok-table.ensures.value;
      is = c.in_ok-feed.ensures.some;
    } in
    rw c.dict.ensures.is (text_cell g y feed found cells refl c.column.ensures.is (sym c.kind.ensures ∙ c.in-Str.is))
