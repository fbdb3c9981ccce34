use Rattle.std.proofs.Common.{sym, inl, inr, arith}
use Rattle.gq_base.specs.Valid.{is_cell_of}
use Rattle.gq_plain.proofs.ZipSteps.{sized}
use Rattle.gq_plain.proofs.validity.fits_fields.Goals as goal

pub returns-then-fields-cells : goal.returns-then-fields-cells
returns-then-fields-cells c = elim (sized is_cell_of c.args.fields.now c.args.cells.now) [
  | inl e ↦ absurd (omega arith)
  | inr e ↦ sym e
]
