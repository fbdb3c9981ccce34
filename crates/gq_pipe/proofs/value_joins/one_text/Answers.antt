use Rattle.std.proofs.Common.{sym}
use Rattle.gq_steps.specs.Moves.{run_of}
use Rattle.gq_pipe.proofs.ByValue.{text_by}
use Rattle.gq_pipe.proofs.value_joins.one_text.Goals as goal

pub returns-in-Some : goal.returns-in-Some
returns-in-Some c = text_by (run_of c.args.plan_run.now) c.args.test c.in-Some.condition.now (sym c.in-Some.ensures.value) c.equal_texts.result c.equal_texts.ensures
