use Rattle.std.proofs.Common.{◌≡◌}
use Rattle.std.specs.List.{range_with_len}
use Rattle.gq_core.proofs.choosing.numbers_below.Given as goal

abbrev pub invariant-loop : goal.invariant-loop
invariant-loop l = record { at : l.at ≡ l.counter; numbers : l.numbers ≡ range_with_len 0 l.counter }
