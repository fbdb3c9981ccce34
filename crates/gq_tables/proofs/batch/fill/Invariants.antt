use Rattle.std.proofs.Common.{◌≡◌, ◌++◌, take}
use Rattle.gq_tables.specs.steps.Batches.{texts_of}
use Rattle.gq_tables.specs.steps.Unread.{IsOpen, records_left}
use Rattle.gq_tables.proofs.batch.fill.Given as goal

abbrev pub invariant-loop-count : goal.invariant-loop-count
invariant-loop-count l = record {
  is_open : IsOpen l.reader;
  next : records_left l.initial.reader ≡ texts_of (take l.count l.batch) ++ records_left l.reader;
}
