use Rattle.std.proofs.Common.{◌≡◌, length, map}
use Rattle.gq_base.specs.Plain.{rels_at}
use Rattle.std.specs.List.{range_with_len}
use Rattle.gq_execute.proofs.planning.rel_counts.Given as goal

abbrev pub invariant-tables : goal.invariant-tables
invariant-tables l = l.counts ≡ map (λ table. length (rels_at l.graph table)) (range_with_len 0 l.table)
