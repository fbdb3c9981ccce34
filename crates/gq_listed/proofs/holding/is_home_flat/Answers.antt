use Rattle.std.proofs.Common.{sym, subst}
use Rattle.gq_listed.specs.Flat.{IsFlatHome}
use Rattle.gq_listed.proofs.FlatGroups.{one_cell, one_item}
use Rattle.gq_listed.proofs.holding.is_home_flat.Goals as goal

pub returns-in-Item : goal.returns-in-Item
returns-in-Item c = λ e. subst (IsFlatHome c.args.chunk.now) (sym c.in-Item.is) (one_item c.args.chunk.now c.in-Item.group (c.is_flat_group.ensures e))

pub returns-in-Column : goal.returns-in-Column
returns-in-Column c = λ e. subst (IsFlatHome c.args.chunk.now) (sym c.in-Column.is) (one_cell c.args.chunk.now c.in-Column.group _ (c.is_flat_group-in-Column.ensures e))
