use Rattle.std.proofs.Common.{◌≡◌, drop}
use Rattle.gq_base.specs.Values.{val}
use Rattle.gq_expr.specs.Operators.{member_of}
use Rattle.gq_base.specs.Truth.{or3}
use Rattle.gq_expr.proofs.operators.is_member.Given as goal

abbrev pub invariant-loop-literal : goal.invariant-loop-literal
invariant-loop-literal l = or3 l.answer (member_of (val l.value) (drop l.literal-index l.literals)) ≡ member_of (val l.value) l.literals
