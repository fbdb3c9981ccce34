use Rattle.std.proofs.Common.{◌≡◌, ◌+◌, ◌-◌, ◌^◌, min, take, drop}
use Rattle.gq_lexer.specs.Numbers.{digits_at, value_in}
use Rattle.gq_lexer.proofs.number.read_digits.Given as goal

abbrev pub invariant-loop-size : goal.invariant-loop-size
invariant-loop-size l = (digits_at l.base l.rest ≡ l.size + digits_at l.base (drop l.size l.rest)) × (l.value ≡ min (value_in l.base (take l.size l.rest)) (2 ^ 64 - 1))
