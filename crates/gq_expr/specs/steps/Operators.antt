-- What operators answer behind a call that may fault, and where a number may not fit.
use Rattle.std.specs.Prelude.{Bool, ℤ, Option, Some, None, Result, Ok, Err}
use Rattle.gq_base.specs.Values.{int}
use Rattle.gq_expr.specs.Operators.{Outcome}
use Rattle.gq_expr.specs.declared.expr.Fault.{Fault}
use Rattle.gq_expr.specs.declared.expr.Fault.TheVariants.{Overflow}

-- what follows a truth that a call answers, unless the call faults
abbrev pub with_known : Result (Option Bool) Fault → (Option Bool → Outcome) → Outcome
with_known (Ok p) go = go p
with_known (Err e) go = Err e

-- an answer that may not fit
abbrev pub fitting_or_overflow : Option ℤ → Outcome
fitting_or_overflow None = Err Overflow
fitting_or_overflow (Some z) = Ok (int z)
