use Rattle.std.proofs.Common.{◌≡◌, ◌<◌, ◌+◌, ◌-◌, ◌*◌, ◌^◌, ap, length, get_or, set, to_z, of_z, ◌∙◌, subst, arith, pos, ℕ, ℤ, SFits, w64, rules, cond, count_by, Bool, true, false, List, Option}
use Rattle.std.specs.Prelude.{unwrap_or, is_some}
use mir.Val.{bool_byte}
use Rattle.std.proofs.Math.Facts.{to_z-of_z}
use Rattle.std.proofs.lemmas.Grind.{pow_more}
use Rattle.std.proofs.lemmas.List.{get_or_read_under}
use Rattle.gq_column.specs.Cells.{cell_at}
use Rattle.gq_column.specs.steps.Cells.{BlockGathered, cells_of}
use Rattle.gq_column.proofs.Ranked.{length-cells_of, rank, chosen, chosen_inside}
use Rattle.gq_column.proofs.Filled.{block_before}
use Rattle.gq_column.proofs.Column.gather_block.Goals as goal

doubled : (word n : ℕ) (on : Bool) → word < 2 ^ n → 2 * word + bool_byte on < 2 ^ (n + 1)
doubled word n true h = omega (arith, h, pow_more 2 n)
doubled word n false h = omega (arith, h, pow_more 2 n)

pub get-on-requires : goal.get-on-requires
get-on-requires c = omega (arith, c.requires.inside (c.args.high - 1 - c.loop-done.done) 0 (omega (arith, c.requires.covered, c.loop-done-test.true)), ap length c.self.view_is, length-cells_of c.self.inside.present c.self.inside.kept.items)

pub rank-rank-requires : goal.rank-rank-requires
rank-rank-requires c = omega (arith, c.requires.inside (c.args.high - 1 - c.loop-done.done) 0 (omega (arith, c.requires.covered, c.loop-done-test.true)), ap length c.self.view_is, length-cells_of c.self.inside.present c.self.inside.kept.items)

pub loop-done-preserved : goal.loop-done-preserved
loop-done-preserved c =
    let present = c.self.inside.present in
    let kept = c.self.inside.kept in
    let n : ℕ = c.loop-done.done in
    let high : ℕ = c.args.high in
    let place : ℕ = high - 1 - n in
    let row : ℕ = get_or c.args.rows.now place 0 in
    let at : ℕ = c.select_unpredictable.result in
    let on = c.get-on.result in
    let cell = λ (k : ℕ). cell_at c.args.self.now (get_or c.args.rows.now k 0) in
    let short : n < high - c.args.low = c.loop-done-test.true in
    let inside : row < length present = omega (arith, c.requires.inside place 0 (omega (arith, c.requires.covered, short)), ap length c.self.view_is, length-cells_of present kept.items) in
    let null : c.len-null.result - 1 ≡ count_by (λ on. on) present = omega (arith, c.len-null.ensures, c.self.invariant.count, kept.ok.0) in
    let is : at ≡ cond on (rank present row) (count_by (λ on. on) present) =
    c.select_unpredictable.ensures ∙ ap (λ r. cond on r (c.len-null.result - 1)) c.rank-rank.ensures ∙ ap (λ m. cond on (rank present row) m) null in
    let pick = chosen present kept.items row at on c.self.invariant inside c.get-on.ensures is in
    let fits : SFits w64 c.index.result.now = search rules in
    let value : ℤ = to_z w64 (of_z w64 c.index.result.now) in
    let read = get_or_read_under kept.items at kept.len c.index.result.now (pos 0) c.index.ensures (omega (arith, chosen_inside present row at on is, c.self.invariant.count, kept.ok.0)) kept.ok.0 in
    let seen : cell_at (cells_of present kept.items) row ≡ cell place = ap (λ (cells : List (Option ℤ)). cell_at cells row) c.self.view_is in
    let from : high - n ≡ place + 1 = omega (arith, short) in
    let next : place ≡ high - (n + 1) = omega arith in
    let had : BlockGathered cell (place + 1) high c.args.out.now c.loop-done.out c.loop-done.word = subst (λ j. BlockGathered cell j high c.args.out.now c.loop-done.out c.loop-done.word) from c.loop-done.invariant.0 in
    rw (c.from.ensures) (
      subst (λ j. BlockGathered cell j high c.args.out.now (set c.loop-done.out place value) (2 * c.loop-done.word + bool_byte on)) next
          (block_before cell place high c.loop-done.word c.args.out.now c.loop-done.out value on had (omega (arith, short))
          (omega (arith, c.requires.room, c.requires.covered, short, c.loop-done.auto.out))
          (to_z-of_z {w = w64} fits ∙ read ∙ pick.0 ∙ ap (λ (x : Option ℤ). unwrap_or x (pos 0)) seen)
          (pick.1 ∙ ap (λ (x : Option ℤ). is_some x) seen)),
      doubled c.loop-done.word n on c.loop-done.invariant.1,
    )
