use Rattle.std.proofs.Common.{◌≡◌, ◌+◌}
use Rattle.std.specs.List.{range_with_len}
use Rattle.gq_scopes.proofs.variables.numbers_from.Given as goal

abbrev pub invariant-loop : goal.invariant-loop
invariant-loop l = record { at : l.at ≡ l.start + l.counter; numbers : l.numbers ≡ range_with_len l.start l.counter }
