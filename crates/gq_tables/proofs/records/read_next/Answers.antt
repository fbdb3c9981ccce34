use Rattle.gq_tables.proofs.RecordSteps.{Takes, takes}
use Rattle.gq_tables.proofs.records.read_next.Goals as goal
use Rattle.gq_tables.proofs.records.read_next.Goals.{In-Ok}
use Rattle.csv.specs.Records.{fields_of}

step : (c : In-Ok) → Takes c.args.reader.now c.read_byte_record.new.self c.in-Ok.found (fields_of c.read_byte_record.new.row)
step c = let done = c.in-Ok.ensures in takes _ _ _ _ c.requires (done.ready c.requires.trim) (done.reads c.requires.trim c.requires.ready)

pub returns-clause-is_open : goal.returns-clause-is_open
returns-clause-is_open c = (step c).is_open

pub returns-clause-next : goal.returns-clause-next
returns-clause-next c = (step c).next
