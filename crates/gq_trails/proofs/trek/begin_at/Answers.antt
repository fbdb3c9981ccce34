use Rattle.std.proofs.Common.{◌∙◌, ap}
use Rattle.gq_marks.specs.Marking.{Marking, bound_of}
use Rattle.gq_trails.proofs.trek.begin_at.Goals as goal

pub returns-clause-bounds : goal.returns-clause-bounds
returns-clause-bounds c n node may = ap (λ (m : Marking). bound_of m n) c.begin.ensures.bounds ∙ c.aim_for.ensures.bounds n node may

pub returns-clause-fits : goal.returns-clause-fits
returns-clause-fits c other n node fits = ap (λ (m : Marking). bound_of m n) c.begin.ensures.bounds ∙ c.aim_for.ensures.fits other n node fits
