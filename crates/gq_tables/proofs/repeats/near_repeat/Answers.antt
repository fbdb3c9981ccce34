use Rattle.std.proofs.Common.{◌≡◌, ◌<◌, length, sym, ◌∙◌, arith}
use Rattle.std.proofs.lemmas.Option.{get_or_from_slice_get}
use Rattle.gq_tables.specs.steps.NearKeys.{near}
use Rattle.gq_tables.proofs.KeySteps.{key_once, key_twice}
use Rattle.gq_tables.proofs.repeats.near_repeat.Goals as goal

pub returns-then-has_row-clause-at : goal.returns-then-has_row-clause-at
returns-then-has_row-clause-at c = λ at e.
    let same : c.loop-at.at ≡ at = cc e in
    let more : c.loop-at.at < length c.args.rows.now = omega arith in
    let row = c.row-row.result.now in
    let is = sym (get_or_from_slice_get c.args.rows.now c.loop-at.at row row c.row-row.ensures) in
    let all = key_twice c.args.rows.now c.loop-at.at (near c.loop-at.index) c.loop-at.invariant more row is (sym c.has_row.ensures ∙ c.if-has_row.true) in
    (omega (arith, same, more), rw (← same) all)

pub loop-at-preserved : goal.loop-at-preserved
loop-at-preserved c =
    let more : c.loop-at.at < length c.args.rows.now = omega arith in
    let row = c.row-row.result.now in
    let is = sym (get_or_from_slice_get c.args.rows.now c.loop-at.at row row c.row-row.ensures) in
    key_once c.args.rows.now c.loop-at.at (near c.loop-at.index) c.loop-at.invariant more row is (near c.put.new.self) (sym c.has_row.ensures ∙ c.if-has_row.false)
    (rw c.if-not-put.false at c.put.ensures)
