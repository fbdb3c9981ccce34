use Rattle.gq_manifest.proofs.Cuts.{first_line, only_line}
use Rattle.gq_manifest.proofs.cut.cut_line.Goals as goal

pub returns-in-Some-clause-line : goal.returns-in-Some-clause-line
returns-in-Some-clause-line c = rw c.without_cr.ensures (first_line c.args.text.now c.in-Some.end c.in-Some.ensures.value)

pub returns-in-None-clause-line : goal.returns-in-None-clause-line
returns-in-None-clause-line c = only_line c.args.text.now c.requires c.in-None.ensures.value
