use Rattle.gq_base.specs.Valid.{is_cell_of}
use Rattle.gq_plain.proofs.ZipSteps.{Passed}
use Rattle.gq_plain.proofs.validity.fits_fields.Given as goal

abbrev pub invariant-loop-at : goal.invariant-loop-at
invariant-loop-at l = Passed is_cell_of l.fields l.cells l.at
