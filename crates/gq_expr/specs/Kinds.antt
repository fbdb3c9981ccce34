-- Which expressions may fault, as far as the kinds of the properties tell (this project's profile).
use Rattle.std.specs.Prelude.{ℕ, Bool, true, false, not, ◌||◌, List, [], ◌∷◌, slice_get}
use Rattle.std.specs.declared.option.Option.{Option}
use Rattle.std.specs.declared.option.Option.TheVariants.{Some, None}
use Rattle.std.specs.List.{list_any, list_all, flat_map}
use Rattle.gq_base.specs.Catalogs.{find_field}
use Rattle.gq_base.specs.declared.Field.{Field}
use Rattle.gq_base.specs.declared.Kind.{Kind}
use Rattle.gq_base.specs.declared.Kind.TheVariants as kind
use Rattle.gq_base.specs.declared.Literal.{Literal}
use Rattle.gq_base.specs.declared.Literal.TheVariants as literal
use Rattle.gq_expr.specs.declared.expr.Operand.{Operand}
use Rattle.gq_base.specs.declared.operator.CompareOp.{CompareOp}
use Rattle.gq_expr.specs.declared.expr.Expr.{Expr, Expr-F, fold-Expr}
use Rattle.gq_expr.specs.declared.expr.Tester.{Tester}
use Rattle.gq_expr.specs.declared.expr.Tester.TheVariants as tester
use Rattle.gq_expr.specs.declared.kinds.Kinds.{Kinds}

-- the kind of a value that is not null
pub data Sort : Type 0 where
  boolean : Sort
  integer : Sort
  string : Sort
  node : Sort
  relationship : Sort

abbrev pub is_boolean : Sort → Bool
is_boolean boolean = true
is_boolean s = false

abbrev pub is_relationship : Sort → Bool
is_relationship relationship = true
is_relationship s = false

-- what an expression may do: whether it may fault, and which kinds its value may have where it is not null
pub record May : Type 0 where
  pub faults : Bool
  pub kinds : List Sort

-- no fault, and a value of these kinds
abbrev pub safe : List Sort → May
safe kinds = record { faults = false; kinds = kinds }

-- a boolean
abbrev pub truth : Bool → May
truth faults = record { faults = faults; kinds = boolean ∷ [] }

-- an integer, or Overflow
abbrev pub arithmetic : May
arithmetic = record { faults = true; kinds = integer ∷ [] }

-- whether an operand of a logical operator may fault or be no boolean
abbrev pub misfits : May → Bool
misfits m = m.faults || not (list_all is_boolean m.kinds)

abbrev pub literal_kinds : Literal → List Sort
literal_kinds literal.Null = []
literal_kinds (literal.Flag b) = boolean ∷ []
literal_kinds (literal.Int z) = integer ∷ []
literal_kinds (literal.Str t) = string ∷ []

-- the kind of the field at a place, where there is one
abbrev pub kind_of : Option Field → Option Kind
kind_of None = None
kind_of (Some f) = Some f.kind

abbrev pub kind_at : List Field → Option ℕ → Option Kind
kind_at fields None = None
kind_at fields (Some place) = kind_of (slice_get fields place)

-- the kind of the field of that name
abbrev pub kind_in : List Field → List ℕ → Option Kind
kind_in fields name = kind_at fields (find_field fields name)

-- the same of a variable that may have no fields
abbrev pub field_kind : Option (List Field) → List ℕ → Option Kind
field_kind None name = None
field_kind (Some fields) name = kind_in fields name

-- the kinds of a property: that of its field, and none where the field is missing
abbrev pub kinds_at : Option Kind → List Sort
kinds_at None = []
kinds_at (Some kind.Int) = integer ∷ []
kinds_at (Some kind.Str) = string ∷ []
kinds_at (Some kind.Flag) = boolean ∷ []

abbrev pub may_fault : May → Bool
may_fault m = m.faults

-- an argument of `type` is to be a relationship
abbrev pub type_may : May → May
type_may m = record { faults = m.faults || not (list_all is_relationship m.kinds); kinds = string ∷ [] }

-- `coalesce` may have the kinds of all its arguments
abbrev pub all_of : List May → May
all_of ms = record { faults = list_any may_fault ms; kinds = flat_map (λ m. m.kinds) ms }

abbrev pub term_faults : Operand CompareOp May → Bool
term_faults t = t.expr.faults

abbrev pub tester_faults : Tester May → Bool
tester_faults tester.IsNull = false
tester_faults tester.IsNotNull = false
tester_faults (tester.Member ls) = false
tester_faults (tester.Text test m) = m.faults

-- an operand with its tests
abbrev pub test_may : May → List (Tester May) → May
test_may m [] = m
test_may m (t ∷ ts) = truth (m.faults || list_any tester_faults (t ∷ ts))

-- one level of an expression, by what its parts may do
abbrev pub may_step : Kinds → Expr-F May → May
may_step kinds (Expr-F.Literal l) = safe (literal_kinds l)
may_step kinds (Expr-F.Node n) = safe (node ∷ [])
may_step kinds (Expr-F.Rel n) = safe (relationship ∷ [])
may_step kinds (Expr-F.NodeProperty n name) = safe (kinds_at (field_kind (slice_get kinds.nodes n) name))
may_step kinds (Expr-F.RelProperty n name) = safe (kinds_at (field_kind (slice_get kinds.rels n) name))
may_step kinds (Expr-F.TypeName m) = type_may m
may_step kinds (Expr-F.Coalesce ms) = all_of ms
may_step kinds (Expr-F.Negate m) = arithmetic
may_step kinds (Expr-F.Plus m) = arithmetic
may_step kinds (Expr-F.Not m) = truth (misfits m)
may_step kinds (Expr-F.Or ms) = truth (list_any misfits ms)
may_step kinds (Expr-F.Xor ms) = truth (list_any misfits ms)
may_step kinds (Expr-F.And ms) = truth (list_any misfits ms)
may_step kinds (Expr-F.Compare m ts) = truth (m.faults || list_any term_faults ts)
may_step kinds (Expr-F.Test m ts) = test_may m ts
may_step kinds (Expr-F.Arith m ts) = arithmetic

unfoldable pub may : Kinds → Expr → May
may kinds = fold-Expr May (may_step kinds)

-- whether a condition may fault, or have another value than true, false and null
abbrev pub can_fault : Kinds → Expr → Bool
can_fault kinds e = misfits (may kinds e)
