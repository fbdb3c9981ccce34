use Rattle.std.proofs.Common.{◌∙◌, Some, None, ap, refl, sym}
use Rattle.std.specs.Option.{option_copied}
use Rattle.std.specs.Prelude.{slice_index}
use Rattle.gq_group.specs.Chunks.{cell_at, group_of, items_in, row_in}
use Rattle.gq_group.specs.declared.home.NodeHome.TheVariants.{Nowhere, Item, Column}
use Rattle.gq_exists.proofs.Settling.{found_at, settled}
use Rattle.gq_exists.proofs.settled.is_settled.Goals as goal

pub returns-in-None : goal.returns-in-None
returns-in-None c h =
    settled c.args.chunk.now c.args.variable Nowhere (found_at c.args.chunk.now c.homes.result.now c.homes.ensures c.args.variable None (sym (ap option_copied c.in-None.is) ∙ c.get.ensures.value)) (λ ps qs a b. refl)

pub returns-in-Some-Nowhere : goal.returns-in-Some-Nowhere
returns-in-Some-Nowhere c h =
    settled c.args.chunk.now c.args.variable Nowhere (found_at c.args.chunk.now c.homes.result.now c.homes.ensures c.args.variable (Some Nowhere) (ap Some (sym c.in-Some-Nowhere.field-0-is) ∙ c.in-Some-Nowhere.ensures.value)) (λ ps qs a b. refl)

pub returns-in-Some-Item : goal.returns-in-Some-Item
returns-in-Some-Item c h =
    let chunk = c.args.chunk.now in
    let i = c.in-Some-Item.group in
    settled chunk c.args.variable (Item i) (found_at chunk c.homes.result.now c.homes.ensures c.args.variable (Some (Item i)) (ap Some (sym c.in-Some-Item.field-0-is) ∙ c.in-Some-Item.ensures.value))
    (λ ps qs a b. ap (slice_index (items_in (group_of chunk i))) (c.is_flat.ensures h ps qs a b))

pub returns-in-Some-Column : goal.returns-in-Some-Column
returns-in-Some-Column c h =
    let chunk = c.args.chunk.now in
    let i = c.in-Some-Column.group in
    let column = c.in-Some-Column.field-0-1 in
    settled chunk c.args.variable (Column i column) (found_at chunk c.homes.result.now c.homes.ensures c.args.variable (Some (Column i column)) (ap Some (sym c.in-Some-Column.field-0-is) ∙ c.in-Some-Column.ensures.value))
    (λ ps qs a b. ap (λ p. row_in (cell_at chunk column p)) (c.is_flat-in-Some-Column.ensures h ps qs a b))
