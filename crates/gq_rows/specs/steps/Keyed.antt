-- What is known of the first key of a query at the positions of a chunk.
use Rattle.std.specs.Prelude.{◌≡◌, IfSome, Option, Some, Ok, List, [], ℕ, slice_get}
use Rattle.std.specs.declared.cmp.Ordering.TheVariants.{Less}
use Rattle.gq_base.specs.Plain.{Graph}
use Rattle.gq_base.specs.Values.{Val, val}
use Rattle.gq_base.specs.declared.Value.{Value}
use Rattle.gq_cells.specs.declared.source.Source.{Source}
use Rattle.gq_eval.specs.Asked.{asked}
use Rattle.gq_expr.specs.Reading as reading
use Rattle.gq_group.specs.Chunks.{assignment_at}
use Rattle.gq_group.specs.declared.chunk.Chunk.{Chunk}
use Rattle.gq_kept.specs.Answers.{by_direction}
use Rattle.gq_kept.specs.Tables.{Pushes, Table, outcome_numbered}
use Rattle.gq_kept.specs.declared.refusal.More.TheVariants as more
use Rattle.gq_listed.specs.Finding.{IsFinder}
use Rattle.gq_listed.specs.Keys.{FindsKey}
use Rattle.gq_listed.specs.Leads.{IsLed}
use Rattle.gq_listed.specs.declared.finder.Finder.{Finder}
use Rattle.gq_listed.specs.declared.keys.KeyFinder.{KeyFinder}
use Rattle.gq_plan.specs.Assignments.{row_of}
use Rattle.gq_plan.specs.Rows.{assigned}
use Rattle.gq_plan.specs.declared.bound.Bound.{Bound}
use Rattle.gq_plan.specs.declared.bound.SortExpr.{SortExpr}
use Rattle.gq_plan.specs.declared.typed.Typed.{Typed}
use Rattle.gq_values.specs.Sure.{AreSure, StartsWith}
use Rattle.gq_values.specs.declared.bar.FirstBar.{FirstBar}

-- where anything was made ready, it finds the values of the first key over this graph
abbrev pub FindsFirst : Graph → Bound → KeyFinder → Type 0
FindsFirst g b k = (sort : SortExpr) → slice_get b.keys 0 ≡ Some sort → FindsKey (asked sort.expr g) k

-- what finds the first key in a chunk, of a query that is sure of its rows and an alternative without conjuncts that are left
pub record IsLeading (g : Graph) (b : Bound) (y : Typed) (c : Chunk) (sources : List Source) (f : Finder) : Type 0 where
  pub sure : AreSure b
  pub late : y.late ≡ []
  pub sort : SortExpr
  pub first : slice_get b.keys 0 ≡ Some sort
  pub finder : IsFinder sources (asked sort.expr g) f
  pub led : IsLed g y c f

-- where anything does, of some query
abbrev pub LeadsSome : Graph → Typed → Chunk → List Source → Option Finder → Type 0
LeadsSome g y c sources lead = (b : Bound) × IfSome lead (IsLeading g b y c sources)

-- the value of the first key of such a query in what expressions read
pub record IsLedValue (g : Graph) (b : Bound) (y : Typed) (here : reading.Assignment) (v : Value) : Type 0 where
  pub sure : AreSure b
  pub late : y.late ≡ []
  pub starts : StartsWith g here b (val v)

-- the first key of such a query comes behind that of the bar in what expressions read
pub record IsPastBar (g : Graph) (b : Bound) (y : Typed) (here : reading.Assignment) (bar : FirstBar) : Type 0 where
  pub sure : AreSure b
  pub late : y.late ≡ []
  pub first : Val
  pub starts : StartsWith g here b first
  pub behind : by_direction bar.down (val bar.value) first ≡ Less

-- nothing changes in a table with an assignment of a chunk
abbrev pub PassesOver : Graph → Bound → Typed → Chunk → Table → List ℕ → Type 0
PassesOver g b y c t ps = Pushes (outcome_numbered g b y.late (row_of (assigned y (assignment_at g y c ps)))) t t (Ok more.Go)
