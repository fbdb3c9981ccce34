use Rattle.std.proofs.Common.{refl}
use Rattle.gq_io.proofs.Moved.{Keeps-same}
use Rattle.gq_shell.proofs.Running.{exit_memory, exit_misused, exit_quizzed, exit_refused, exit_served, path_said, sample_sizes, told_by}
use Rattle.gq_arguments.specs.Command.{usage_text}
use Rattle.gq_shell.specs.declared.status.Status.TheVariants as status
use Rattle.gq_shell.proofs.program.execute.Goals as goal

pub returns-in-Err-Usage : goal.returns-in-Err-Usage
returns-in-Err-Usage g c =
    let misused = rw c.in-Err-Usage.field-0-is at c.in-Err-Usage.ensures in
    exit_misused _ _ _ misused refl refl refl (told_by usage_text status.Usage _ _ c.write_usage.ensures.bytes c.write_usage.ensures.cause _ c.told.ensures)

pub returns-in-Err-Memory : goal.returns-in-Err-Memory
returns-in-Err-Memory g c = exit_memory _ _ _ refl refl (Keeps-same _) (refl, refl, refl)

pub show_sample-requires-clause-least : goal.show_sample-requires-clause-least
show_sample-requires-clause-least g c = (sample_sizes _ c.in-Ok.arguments c.in-Sample.size c.in-Ok.ensures.means c.in-Sample.is).0

pub show_sample-requires-clause-most : goal.show_sample-requires-clause-most
show_sample-requires-clause-most g c = (sample_sizes _ c.in-Ok.arguments c.in-Sample.size c.in-Ok.ensures.means c.in-Sample.is).1

pub returns-in-Sample : goal.returns-in-Sample
returns-in-Sample g c =
    exit_quizzed _ _ c.in-Ok.arguments c.in-Ok.ensures c.in-Sample.size c.in-Sample.is _ refl refl refl (rw c.settings_of-settings.ensures at c.show_sample.ensures)

pub returns-in-Ok-load : goal.returns-in-Ok-load
returns-in-Ok-load g c =
    exit_served _ _ c.in-Ok.arguments c.in-Ok.ensures c.in-Manifest.path.now (path_said c.in-Ok.arguments c.in-Manifest.path c.in-Manifest.is) c.in-Ok-load.graph (rw c.standard.ensures at c.in-Ok-load.ensures.loads) _ (c.in-Ok-load.ensures.faults.kept (λ n e. cc e)) (rw c.settings_of-settings.ensures at c.serve.ensures)

pub returns-in-Err : goal.returns-in-Err
returns-in-Err g c =
    let loads = rw c.standard.ensures at c.in-Err.ensures.loads in
    exit_refused _ _ c.in-Ok.arguments c.in-Ok.ensures c.in-Manifest.path.now (path_said c.in-Ok.arguments c.in-Manifest.path c.in-Manifest.is) _ _ c.in-Err.why refl loads c.in-Err.ensures.faults c.in-Err.ensures.misses refl refl c.end_load.ensures
