use Rattle.std.proofs.Common.{Err, Ok, arith, map, slice_index_or, subst, sym}
use Rattle.gq_group.specs.Groups.{choices, selected}
use Rattle.gq_exists.specs.steps.Gathered.{keys_at}
use Rattle.gq_exists.proofs.Choosing.{Visited, group_is, item_key, position_within, same_items, some_position, taken_item, visited_all, visited_first, visited_next, visited_stops}
use Rattle.gq_exists.proofs.Gathered.{Same, alike}
use Rattle.gq_exists.proofs.gathering.Gathering.take_items.Goals as goal

pub positions-init : goal.positions-init
positions-init c =
    visited_first (slice_index_or c.as_slice.result.now 0 0) c.group-here.result.now c.args.self.now c.requires.is c.next_selected-next.result c.next_selected-next.ensures.next c.next_selected-next.ensures.place

pub item-row-requires-clause-piece : goal.item-row-requires-clause-piece
item-row-requires-clause-piece c = (group_is c.args.chunk.now c.requires.chunk c.args.group c.group-here.result.now c.group-here.ensures).piece

pub item-row-requires-clause-position : goal.item-row-requires-clause-position
item-row-requires-clause-position c =
    let g = c.group-here.result.now in
    position_within g c.in-Some.position (group_is c.args.chunk.now c.requires.chunk c.args.group g c.group-here.ensures)
    (some_position g c.positions.next c.in-Some.position c.in-Some.is c.positions.invariant.there)

pub overflow_add-position : goal.overflow_add-position
overflow_add-position c =
    let g = c.group-here.result.now in
    let is = group_is c.args.chunk.now c.requires.chunk c.args.group g c.group-here.ensures in
    let low = position_within g c.in-Some.position is (some_position g c.positions.next c.in-Some.position c.in-Some.is c.positions.invariant.there) in
    omega (arith, low, is.piece.few)

pub next_selected-next-requires-in-Some : goal.next_selected-next-requires-in-Some
next_selected-next-requires-in-Some c = group_is c.args.chunk.now c.requires.chunk c.args.group c.group-here.result.now c.group-here.ensures

pub positions-preserved : goal.positions-preserved
positions-preserved c =
    let g = c.group-here.result.now in
    let t = slice_index_or c.as_slice.result.now 0 0 in
    let p = c.in-Some.position in
    let v = subst (Visited t g c.args.self.now c.positions.self) c.in-Some.is c.positions.invariant in
    visited_next t g c.args.self.now c.positions.self p v c.take.new.self tt (taken_item t g p c.item-row.result c.positions.self c.take.new.self (Ok tt) c.item-row.ensures c.in-Ok.ensures)
    c.next_selected-next-in-Some.result c.next_selected-next-in-Some.ensures.next c.next_selected-next-in-Some.ensures.place

pub returns-in-Err : goal.returns-in-Err
returns-in-Err c =
    let g = c.group-here.result.now in
    let y = c.args.typed.now in
    let chunk = c.args.chunk.now in
    let t = slice_index_or c.as_slice.result.now 0 0 in
    let p = c.in-Some.position in
    let all = keys_at y 1 chunk (choices chunk.groups.now) in
    let v = subst (Visited t g c.args.self.now c.positions.self) c.in-Some.is c.positions.invariant in
    let same = subst (λ ns. Same (map (item_key (slice_index_or ns 0 0) g) (selected g)) all) (sym c.as_slice.ensures) (same_items y chunk c.args.group g c.requires.wide c.requires.item c.group-here.ensures c.requires.some) in
    alike (map (item_key t g) (selected g)) all c.args.self.now c.take.new.self (Err c.in-Err.refusal) same
    (visited_stops t g c.args.self.now c.positions.self p v c.take.new.self c.in-Err.refusal (taken_item t g p c.item-row.result c.positions.self c.take.new.self (Err c.in-Err.refusal) c.item-row.ensures c.in-Err.ensures))

pub returns : goal.returns
returns c =
    let g = c.group-here.result.now in
    let y = c.args.typed.now in
    let chunk = c.args.chunk.now in
    let t = slice_index_or c.as_slice.result.now 0 0 in
    let all = keys_at y 1 chunk (choices chunk.groups.now) in
    let v = subst (Visited t g c.args.self.now c.positions.self) c.in_default.is c.positions.invariant in
    let same = subst (λ ns. Same (map (item_key (slice_index_or ns 0 0) g) (selected g)) all) (sym c.as_slice.ensures) (same_items y chunk c.args.group g c.requires.wide c.requires.item c.group-here.ensures c.requires.some) in
    alike (map (item_key t g) (selected g)) all c.args.self.now c.positions.self (Ok tt) same (visited_all t g c.args.self.now c.positions.self v)
