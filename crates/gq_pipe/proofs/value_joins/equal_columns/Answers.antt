use Rattle.std.proofs.Common.{length, refl, sym, ap, ◌∙◌}
use Rattle.std.specs.Prelude.{slice_get}
use Rattle.std.proofs.lemmas.Option.{slice_get_read}
use Rattle.gq_steps.specs.Moves.{run_of}
use Rattle.gq_pipe.proofs.ByValue.{asked_by}
use Rattle.gq_pipe.proofs.value_joins.equal_columns.Goals as goal

pub returns-in-Some : goal.returns-in-Some
returns-in-Some c =
    asked_by (run_of c.args.plan_run.now) c.requires c.args.test c.in-Some.test.now
    (ap (λ ts. slice_get ts c.args.test) (sym c.deref.ensures.value)
    ∙ slice_get_read c.deref.result.now (length c.deref.result.now) c.args.test c.in-Some.test.now refl c.in-Some.ensures.lookup.3.0 c.in-Some.ensures.lookup.1)
    c.equal_columns.result c.equal_columns.ensures
