-- What each operator answers at values, or the fault that it meets.
use Rattle.std.specs.Prelude.{ℕ, ◌^◌, Bool, true, false, ◌||◌, ℤ, pos, negsuc, ◌+ℤ◌, ◌-ℤ◌, ◌*ℤ◌, neg_ℤ, int_div, int_rem, nat_lt, nat_eq, if◌then◌else◌, List, [], ◌∷◌, Option, Some, None, Result, Ok, Err}
use Rattle.std.specs.List.{starts_with, ends_with}
use Rattle.std.specs.Ordering.{int_eq}
use Rattle.gq_base.specs.Values.{Val, null, flag, int, str, rel, val, literal_val, less_vals, equal_vals}
use Rattle.gq_base.specs.declared.Literal.{Literal}
use Rattle.gq_base.specs.declared.RelId.{RelId}
use Rattle.gq_base.specs.declared.Value.{Value}
use Rattle.gq_base.specs.Truth.{and3, or3, xor3, not3}
use Rattle.gq_base.specs.declared.operator.ArithOp.{ArithOp}
use Rattle.gq_base.specs.declared.operator.ArithOp.TheVariants.{Add, Subtract, Multiply, Divide, Remainder}
use Rattle.gq_base.specs.declared.operator.CompareOp.{CompareOp}
use Rattle.gq_base.specs.declared.operator.CompareOp.TheVariants as compare
use Rattle.gq_base.specs.declared.operator.TextTest.{TextTest}
use Rattle.gq_base.specs.declared.operator.TextTest.TheVariants as text
use Rattle.gq_expr.specs.declared.expr.Fault.{Fault}
use Rattle.gq_expr.specs.declared.expr.Fault.TheVariants.{Overflow, DivideByZero, Kind}
use Rattle.gq_expr.specs.declared.expr.LogicOp.{LogicOp}
use Rattle.gq_expr.specs.declared.expr.LogicOp.TheVariants as logic

-- a value, or the first fault met
abbrev pub Outcome : Type 0
Outcome = Result Val Fault

-- the outcome that a call answers
abbrev pub outcome : Result Value Fault → Outcome
outcome (Ok v) = Ok (val v)
outcome (Err e) = Err e

-- a truth as a value
abbrev pub of_truth : Option Bool → Val
of_truth None = null
of_truth (Some b) = flag b

-- an operand of a logical operator: a boolean or null, else it is of the wrong kind (this project's profile)
abbrev pub with_truth : Val → (Option Bool → Outcome) → Outcome
with_truth null go = go None
with_truth (flag b) go = go (Some b)
with_truth v go = Err Kind

-- the table of a logical operator (openCypher 9)
abbrev pub logic3 : LogicOp → Option Bool → Option Bool → Option Bool
logic3 logic.And p q = and3 p q
logic3 logic.Or p q = or3 p q
logic3 logic.Xor p q = xor3 p q

abbrev pub logic_vals : LogicOp → Val → Val → Outcome
logic_vals op a b = with_truth a (λ p. with_truth b (λ q. Ok (of_truth (logic3 op p q))))

abbrev pub not_val : Val → Outcome
not_val a = with_truth a (λ p. Ok (of_truth (not3 p)))

-- a comparison: `<>` is not `=`, `>` is `<` of the sides in turn, `<=` is not `>` and `>=` is not `<`
-- (openCypher 9; between different kinds this project's profile)
abbrev pub compare_vals : CompareOp → Val → Val → Option Bool
compare_vals compare.Equal a b = equal_vals a b
compare_vals compare.NotEqual a b = not3 (equal_vals a b)
compare_vals compare.Less a b = less_vals a b
compare_vals compare.LessEqual a b = not3 (less_vals b a)
compare_vals compare.Greater a b = less_vals b a
compare_vals compare.GreaterEqual a b = not3 (less_vals a b)

-- `IS NULL`, which is never null (openCypher 9)
abbrev pub is_null_val : Val → Bool
is_null_val null = true
is_null_val v = false

-- `x IN [a, b, ..]` is `x = a OR x = b OR ..`, and false for the empty list (openCypher 9)
abbrev pub member_of : Val → List Literal → Option Bool
member_of a [] = Some false
member_of a (l ∷ ls) = or3 (equal_vals a (literal_val l)) (member_of a ls)

-- a text has another as a part where it begins with it, or where what follows its first byte has it
abbrev pub occurs : List ℕ → List ℕ → Bool
occurs [] p = starts_with nat_eq [] p
occurs (b ∷ s) p = starts_with nat_eq (b ∷ s) p || occurs s p

-- what each test of a text asks: `STARTS WITH`, `ENDS WITH` and `CONTAINS`
abbrev pub passes : TextTest → List ℕ → List ℕ → Bool
passes text.Starts s p = starts_with nat_eq s p
passes text.Ends s p = ends_with nat_eq s p
passes text.Contains s p = occurs s p

-- it is null unless both sides are strings (openCypher 9)
abbrev pub text_vals : TextTest → Val → Val → Option Bool
text_vals test (str s) (str p) = Some (passes test s p)
text_vals test a b = None

-- whether a number fits 64 signed bits
abbrev pub fits_i64 : ℤ → Bool
fits_i64 (pos n) = nat_lt n (2 ^ 63)
fits_i64 (negsuc n) = nat_lt n (2 ^ 63)

abbrev pub fitting : ℤ → Outcome
fitting z = if fits_i64 z then Ok (int z) else Err Overflow

-- an operator at two integers: `/` truncates towards zero and `%` has the sign of the dividend (openCypher 9);
-- the faults are this project's profile
abbrev pub int_arith : ArithOp → ℤ → ℤ → Outcome
int_arith Add x y = fitting (x +ℤ y)
int_arith Subtract x y = fitting (x -ℤ y)
int_arith Multiply x y = fitting (x *ℤ y)
int_arith Divide x y = if int_eq y (pos 0) then Err DivideByZero else fitting (int_div x y)
int_arith Remainder x y = if int_eq y (pos 0) then Err DivideByZero else Ok (int (int_rem x y))

-- null if an operand is null (openCypher 9), else a fault if an operand is no integer (this project's profile)
abbrev pub arith_vals : ArithOp → Val → Val → Outcome
arith_vals op null b = Ok null
arith_vals op a null = Ok null
arith_vals op (int x) (int y) = int_arith op x y
arith_vals op a b = Err Kind

-- the signs, likewise
abbrev pub negate_val : Val → Outcome
negate_val null = Ok null
negate_val (int z) = fitting (neg_ℤ z)
negate_val v = Err Kind

abbrev pub plus_val : Val → Outcome
plus_val null = Ok null
plus_val (int z) = Ok (int z)
plus_val v = Err Kind

-- `type(e)`: the name of a relationship's type, null of null, else the wrong kind (openCypher 9)
abbrev pub type_val : (RelId → Val) → Val → Outcome
type_val name null = Ok null
type_val name (rel r) = Ok (name r)
type_val name v = Err Kind

-- the first of two values that is not null
abbrev pub first_known : Val → Val → Val
first_known null b = b
first_known a b = a
