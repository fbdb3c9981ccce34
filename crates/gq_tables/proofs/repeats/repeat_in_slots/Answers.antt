use Rattle.std.proofs.Common.{◌≡◌, ◌<◌, get_or, length, sym, ◌∙◌, arith}
use Rattle.std.proofs.lemmas.Option.{get_or_from_slice_get}
use Rattle.gq_tables.specs.steps.KeyIndexes.{held}
use Rattle.gq_tables.proofs.KeySteps.{key_once, key_twice}
use Rattle.gq_tables.proofs.repeats.repeat_in_slots.Goals as goal
use Rattle.gq_tables.proofs.repeats.repeat_in_slots.Goals.{After-row}

-- the row at this place
is : (c : After-row) → c.row.result.now ≡ get_or c.args.rows.now c.loop-at.at c.row.result.now
is c = sym (get_or_from_slice_get c.args.rows.now c.loop-at.at c.row.result.now c.row.result.now c.row.ensures)

pub returns-then-branch-clause-value : goal.returns-then-branch-clause-value
returns-then-branch-clause-value c =
    let more : c.loop-at.at < length c.args.rows.now = omega arith in
    let taken = sym c.in_ok-put_row.ensures.before ∙ c.if-branch.true in
    key_twice c.args.rows.now c.loop-at.at (held c.loop-at.index) c.loop-at.invariant more c.row.result.now
    (is (goal.at.returns-then-branch-clause-value c).After-row) taken

pub loop-at-preserved : goal.loop-at-preserved
loop-at-preserved c =
    let more : c.loop-at.at < length c.args.rows.now = omega arith in
    let fresh = sym c.in_ok-put_row.ensures.before ∙ c.if-branch.false in
    key_once c.args.rows.now c.loop-at.at (held c.loop-at.index) c.loop-at.invariant more c.row.result.now
    (is (goal.at.loop-at-preserved c).After-row) (held c.put_row.new.index) fresh c.in_ok-put_row.ensures.put
