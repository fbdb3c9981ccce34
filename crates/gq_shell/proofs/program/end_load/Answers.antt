use Rattle.gq_shell.proofs.Running.{line_ended, told_by}
use Rattle.gq_shell.specs.LoadLines.{load_line}
use Rattle.gq_shell.specs.declared.status.Status.TheVariants as status
use Rattle.gq_shell.proofs.program.end_load.Goals as goal

pub returns-in_default : goal.returns-in_default
returns-in_default g c =
    line_ended c.args.why.now _ _ c.in_default.not-ReadFault c.in_default.not-Memory
    (told_by (load_line c.args.why.now) status.NotLoaded _ _ c.write_load_line.ensures.bytes
    c.write_load_line.ensures.cause _ c.told.ensures)
