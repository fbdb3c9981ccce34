use Rattle.std.proofs.Common.{sym}
use Rattle.std.proofs.lemmas.Result.{err_from_is_err_and}
use Rattle.gq_tables.proofs.Answering.{passed_on}
use Rattle.gq_tables.proofs.CellSteps.{bad_cell, has_text, one_cell}
use Rattle.gq_tables.proofs.cells.read_cells.Goals as goal

pub returns-in_default : goal.returns-in_default
returns-in_default c =
    absurd (has_text _ _ _ _ _ _ _ c.loop-place.invariant c.loop-place-test.true c.requires.wide
    (sym c.in_default.ensures.value))

pub returns-in_err-read_cell : goal.returns-in_err-read_cell
returns-in_err-read_cell c =
    let p = err_from_is_err_and c.from_residual.result c.from_residual.ensures.1 in
    rw (p.1, p.2) (passed_on _ _ c.in_err-read_cell.field-0.0 c.in_err-read_cell.ensures
    (bad_cell _ _ _ _ _ _ _ c.loop-place.invariant c.loop-place-test.true c.in-Some.text.now
    (sym c.in-Some.ensures.value) c.index-fields-place.result c.index-fields-place.is))

pub loop-place-preserved : goal.loop-place-preserved
loop-place-preserved c =
    rw c.in_ok-push.ensures.items (
    one_cell _ _ _ _ _ _ _ c.loop-place.invariant c.loop-place-test.true c.in-Some.text.now
    (sym c.in-Some.ensures.value) c.index-fields-place.result c.index-fields-place.is
    c.in_ok-read_cell.field-0 c.in_ok-read_cell.ensures)
