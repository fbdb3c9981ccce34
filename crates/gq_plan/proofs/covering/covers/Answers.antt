use Rattle.std.proofs.Common.{◌∙◌, sym}
use Rattle.gq_plan.proofs.Demands.{covers_if, covers_only_if}
use Rattle.gq_plan.proofs.covering.covers.Goals as goal
use Rattle.gq_plan.specs.Plans.{plan_of}

pub returns-then-fits : goal.returns-then-fits
returns-then-fits c = (
  λ all. covers_if c.args.catalog.now c.args.typed.now (plan_of c.args.plan.now) (c.fits.ensures.0 c.if-fits.true) (sym c.meets_all.ensures ∙ all),
  λ covers. c.meets_all.ensures ∙ covers_only_if c.args.catalog.now c.args.typed.now (plan_of c.args.plan.now) covers,
)
