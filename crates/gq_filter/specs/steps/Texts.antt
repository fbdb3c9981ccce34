-- Tests of a text of a node.
use Rattle.std.specs.Prelude.{ℕ, ℤ, pos, negsuc, ◌≡◌, ◌<◌, ◌≤◌, Bool, false, nat_eq, nat_lt, if◌then◌else◌, List, Option, Some, None, IfSome, length, slice_get}
use Rattle.std.specs.List.{ends_with}
use Rattle.gq_base.specs.Plain.{Graph}
use Rattle.gq_base.specs.declared.Literal.TheVariants.{Str}
use Rattle.gq_bits.specs.Places.{is_marked}
use Rattle.gq_column.specs.Cells.{cell_at}
use Rattle.gq_dict.specs.Texts.{text_at}
use Rattle.gq_expr.specs.Operators.{occurs}
use Rattle.gq_expr.specs.declared.expr.Expr.{Expr}
use Rattle.gq_expr.specs.declared.expr.Expr.TheVariants.{Literal}
use Rattle.gq_expr.specs.declared.expr.Tester.{Tester}
use Rattle.gq_expr.specs.declared.expr.Tester.TheVariants as tester
use Rattle.gq_base.specs.declared.operator.TextTest.TheVariants as ask
use Rattle.gq_plan.specs.Conditions.{passes}
use Rattle.gq_plan.specs.Rows.{as_read}
use Rattle.gq_plan.specs.declared.assignment.Assignment.{Assignment}
use Rattle.gq_plan.specs.declared.bound.NamedExpr.{NamedExpr}
use Rattle.gq_plan.specs.declared.typed.Typed.{Typed}
use Rattle.gq_row_sets.specs.Rows.{RowsTold}
use Rattle.gq_filter.specs.declared.text_test.Part.{Part}
use Rattle.gq_filter.specs.declared.text_test.Part.TheVariants.{End, Inner}
use Rattle.gq_filter.specs.declared.text_test.PartTest.{PartTest}
use Rattle.gq_filter.specs.steps.RowCells.{cell_in}

-- the test of an expression that asks for a part
abbrev pub tester_of : Part → Tester Expr
tester_of (End part) = tester.Text ask.Ends (Literal (Str part.now))
tester_of (Inner part) = tester.Text ask.Contains (Literal (Str part))

-- whether a text has a part
abbrev pub is_in : Part → List ℕ → Bool
is_in (End part) text = ends_with nat_eq text part.now
is_in (Inner part) text = occurs text part

-- the code that a cell is, below the count of the codes
abbrev pub code_in : ℕ → Option ℤ → Option ℕ
code_in count None = None
code_in count (Some (negsuc n)) = None
code_in count (Some (pos code)) = if nat_lt code count then Some code else None

abbrev pub coded_passes : List (List ℕ) → Part → Option ℕ → Bool
coded_passes dict part None = false
coded_passes dict part (Some code) = is_in part (text_at dict code)

-- the text of a row of the variable is there and has the part
abbrev pub row_passes : PartTest → ℕ → Bool
row_passes t row = coded_passes t.property.now.dict t.part (code_in (length t.property.now.dict) (cell_at t.property.now.column row))

-- the text of the variable's node in a row is there and has the part
abbrev pub text_passes : PartTest → Assignment → Bool
text_passes t row = coded_passes t.property.now.dict t.part (code_in (length t.property.now.dict) (cell_in t.property.now.column (slice_get row.nodes t.variable)))

-- a test, if there is one, holds in exactly the rows in which a condition is true
abbrev pub TextDecides : Graph → Typed → NamedExpr → Option PartTest → Type 0
TextDecides g y condition test = IfSome test (λ t. (row : Assignment) → text_passes t row ≡ passes g (as_read y row) condition)

-- of the first codes of the dictionary it is told whether their texts have the part
pub record IsKnown (t : PartTest) (s : RowsTold) : Type 0 where
  pub few : s.rows ≤ length t.property.now.dict
  pub tells : (code : ℕ) → code < length s.told → is_marked s.told code ≡ is_in t.part (text_at t.property.now.dict code)

-- the same of a test that may be there
abbrev pub AreKnown : Option PartTest → RowsTold → Type 0
AreKnown test s = IfSome test (λ t. IsKnown t s)
