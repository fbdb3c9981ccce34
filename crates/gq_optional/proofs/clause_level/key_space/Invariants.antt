use Rattle.std.proofs.Common.{◌≡◌, ◌+◌, drop, length}
use Rattle.gq_optional.specs.steps.Looked.{count_shared}
use Rattle.gq_optional.proofs.clause_level.key_space.Given as goal

abbrev pub invariant-shared : goal.invariant-shared
invariant-shared l = length l.key.items + count_shared (drop l.place l.shared) ≡ count_shared l.shared
