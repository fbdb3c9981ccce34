use Rattle.std.proofs.Common.{sym, subst}
use Rattle.gq_ast.specs.Spans.{IsWholeTree}
use Rattle.gq_ast.specs.declared.Item.{Item}
use Rattle.gq_binder.proofs.columns.push_items.Goals as goal

pub name_of-requires : goal.name_of-requires
name_of-requires c =
    subst (λ (i : Item). IsWholeTree c.args.text.now i.tree) (sym c.item-item.is) (c.requires c.loop-item.item-index c.item-item.result c.loop-item-test.true)
