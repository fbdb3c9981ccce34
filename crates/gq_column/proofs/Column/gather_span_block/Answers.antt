use Rattle.std.proofs.Common.{◌≡◌, ◌<◌, ◌+◌, ◌-◌, ap, length, get_or, to_z, of_z, ◌∙◌, arith, pos, ℕ, ℤ, SFits, w64, rules, cond, count_by, List, Option, Bool, true, false}
use Rattle.std.specs.Prelude.{unwrap_or, is_some}
use mir.Val.{bool_byte}
use Rattle.std.proofs.Math.Facts.{to_z-of_z}
use Rattle.std.proofs.lemmas.List.{get_or_read_under}
use Rattle.gq_column.specs.Cells.{cell_at}
use Rattle.gq_column.specs.steps.Cells.{cells_of}
use Rattle.gq_column.proofs.Ranked.{length-cells_of, rank, rank_more, chosen, chosen_inside}
use Rattle.gq_column.proofs.Filled.{block_behind}
use Rattle.gq_column.proofs.Column.gather_span_block.Goals as goal

one_more : (present : List Bool) (row : ℕ) (on : Bool) → row < length present → on ≡ get_or present row false → rank present row + bool_byte on ≡ rank present (row + 1)
one_more present row true h bit = omega (arith, rank_more present row h, ap {B = ℕ} (λ b. cond b 1 0) bit)
one_more present row false h bit = omega (arith, rank_more present row h, ap {B = ℕ} (λ b. cond b 1 0) bit)

pub overflow_add-low : goal.overflow_add-low
overflow_add-low c = omega (arith, c.requires.inside, c.requires.ordered, c.self.invariant.few, ap length c.self.view_is, length-cells_of c.self.inside.present c.self.inside.kept.items)

pub rank-next-requires : goal.rank-next-requires
rank-next-requires c = omega (arith, c.requires.inside, c.requires.ordered, ap length c.self.view_is, length-cells_of c.self.inside.present c.self.inside.kept.items)

pub overflow_add-low-in-loop-place : goal.overflow_add-low-in-loop-place
overflow_add-low-in-loop-place c =
    omega (arith, c.requires.inside, c.loop-place-test.true, c.self.invariant.few, ap length c.self.view_is, length-cells_of c.self.inside.present c.self.inside.kept.items)

pub get-on-requires : goal.get-on-requires
get-on-requires c = omega (arith, c.requires.inside, c.loop-place-test.true, ap length c.self.view_is, length-cells_of c.self.inside.present c.self.inside.kept.items)

pub loop-place-preserved : goal.loop-place-preserved
loop-place-preserved c =
    let present = c.self.inside.present in
    let kept = c.self.inside.kept in
    let place : ℕ = c.loop-place.place in
    let row : ℕ = c.args.low + place in
    let at : ℕ = c.select_unpredictable.result in
    let on = c.get-on.result in
    let cell = λ (k : ℕ). cell_at c.args.self.now (c.args.low + k) in
    let inside : row < length present = omega (arith, c.requires.inside, c.loop-place-test.true, ap length c.self.view_is, length-cells_of present kept.items) in
    let null : c.len-null.result - 1 ≡ count_by (λ on. on) present = omega (arith, c.len-null.ensures, c.self.invariant.count, kept.ok.0) in
    let is : at ≡ cond on (rank present row) (count_by (λ on. on) present) =
    c.select_unpredictable.ensures ∙ ap (λ r. cond on r (c.len-null.result - 1)) c.loop-place.invariant.walked ∙ ap (λ m. cond on (rank present row) m) null in
    let pick = chosen present kept.items row at on c.self.invariant inside c.get-on.ensures is in
    let fits : SFits w64 c.index.result.now = search rules in
    let value : ℤ = to_z w64 (of_z w64 c.index.result.now) in
    let read = get_or_read_under kept.items at kept.len c.index.result.now (pos 0) c.index.ensures (omega (arith, chosen_inside present row at on is, c.self.invariant.count, kept.ok.0)) kept.ok.0 in
    let seen : cell_at (cells_of present kept.items) row ≡ cell place = ap (λ (cells : List (Option ℤ)). cell_at cells row) c.self.view_is in
    let few : place - c.args.first < 64 = omega (arith, c.requires.few, c.loop-place-test.true, c.loop-place.auto.place) in
    let block = block_behind cell c.args.first place c.loop-place.word c.args.out.now c.loop-place.out value on c.loop-place.invariant.block c.loop-place.invariant.free c.loop-place.auto.place few
    (omega (arith, c.requires.room, c.loop-place-test.true, c.loop-place.auto.out))
    (to_z-of_z {w = w64} fits ∙ read ∙ pick.0 ∙ ap (λ (x : Option ℤ). unwrap_or x (pos 0)) seen)
    (pick.1 ∙ ap (λ (x : Option ℤ). is_some x) seen) in
    let step : c.loop-place.next + bool_byte on ≡ rank present (row + 1) = ap (λ n. n + bool_byte on) c.loop-place.invariant.walked ∙ one_more present row on inside c.get-on.ensures in
    let sum : row + 1 ≡ c.args.low + (place + 1) = omega arith in
    rw (c.from.ensures, c.from-next.ensures) (record { block = block.0; free = block.1; walked = step ∙ ap (rank present) sum })
