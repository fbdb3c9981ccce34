use Rattle.gq_shell.proofs.OneQuery.{one_query}
use Rattle.gq_shell.proofs.OneStatus.{read_fault, whole, write_fault}
use Rattle.gq_shell.proofs.program.run.Goals as goal

pub returns-clause-whole : goal.returns-clause-whole
returns-clause-whole g c = whole _ _ _ c.execute.ensures

pub returns-clause-read_fault : goal.returns-clause-read_fault
returns-clause-read_fault g c is = read_fault _ _ _ c.execute.ensures is

pub returns-clause-write_fault : goal.returns-clause-write_fault
returns-clause-write_fault g c is = write_fault _ _ _ c.execute.ensures is

pub returns-clause-query : goal.returns-clause-query
returns-clause-query g c = one_query _ _ _ c.execute.ensures
