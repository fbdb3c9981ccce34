use Rattle.std.proofs.Common.{◌≡◌, true, take}
use Rattle.std.specs.List.{list_all}
use Rattle.gq_base.specs.Valid.{fits_fields}
use Rattle.gq_plain.proofs.validity.all_fit.Given as goal

abbrev pub invariant-loop-row : goal.invariant-loop-row
invariant-loop-row l = list_all (fits_fields l.fields) (take l.row l.rows) ≡ true
