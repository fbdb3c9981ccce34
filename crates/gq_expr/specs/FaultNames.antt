-- What the faults of an expression are called (this project's profile).
use Rattle.std.specs.Prelude.{List, ℕ, codes}
use Rattle.gq_expr.specs.declared.expr.Fault.{Fault}
use Rattle.gq_expr.specs.declared.expr.Fault.TheVariants as fault

abbrev pub fault_name : Fault → List ℕ
fault_name fault.Overflow = codes "Overflow"
fault_name fault.DivideByZero = codes "DivideByZero"
fault_name fault.Kind = codes "Kind"
