-- What is known of the positions of a chunk whose first key comes behind the bar.
use Rattle.std.specs.Prelude.{◌≡◌, Bool, Option, Some, None, Ok, List, [], slice_get}
use Rattle.gq_base.specs.Plain.{Graph}
use Rattle.gq_base.specs.Values.{val}
use Rattle.gq_expr.specs.Reading as reading
use Rattle.gq_group.specs.Choices.{Chosen, Moves, MovesAmong}
use Rattle.gq_group.specs.declared.chunk.Chunk.{Chunk}
use Rattle.gq_group.specs.declared.group.Group.{Group}
use Rattle.gq_kept.specs.Tables.{Pushes, Table, outcome_numbered}
use Rattle.gq_kept.specs.declared.refusal.More.TheVariants as more
use Rattle.gq_listed.specs.Windows.{AreBehind}
use Rattle.gq_plan.specs.declared.bound.Bound.{Bound}
use Rattle.gq_plan.specs.declared.bound.SortExpr.{SortExpr}
use Rattle.gq_plan.specs.declared.typed.Typed.{Typed}
use Rattle.gq_values.specs.Sure.{AreSure}
use Rattle.gq_values.specs.declared.bar.FirstBar.{FirstBar}
use Rattle.gq_rows.specs.declared.behind.Past.{Past}
use Rattle.gq_rows.specs.steps.Keyed.{IsPastBar}

-- nothing changes in a table with a row whose first key comes behind that of the bar
abbrev pub IsBarOf : Graph → Bound → Table → FirstBar → Type 0
IsBarOf g b t bar = (y : Typed) (here : reading.Assignment) → IsPastBar g b y here bar → Pushes (outcome_numbered g b y.late here) t t (Ok more.Go)

-- the query is sure of its rows, and at positions that are not left its first key comes behind the bar
pub record IsTold (g : Graph) (b : Bound) (y : Typed) (c : Chunk) (past : Past) : Type 0 where
  pub sure : AreSure b
  pub late : y.late ≡ []
  pub sort : SortExpr
  pub first : slice_get b.keys 0 ≡ Some sort
  pub behind : AreBehind g y c past.window sort.expr past.bar.down (val past.bar.value)

-- and the bar is that of a table
pub record IsPast (g : Graph) (b : Bound) (y : Typed) (c : Chunk) (t : Table) (past : Past) : Type 0 where
  pub told : IsTold g b y c past
  pub bar : IsBarOf g b t past.bar

-- the next choice stands, or one behind those that are known, or there is none
abbrev pub GoesOn : List Group → Option Past → Chosen → Bool → Chosen → Type 0
GoesOn gs None old told new = Moves gs old told new
GoesOn gs (Some past) old told new = MovesAmong gs past.window.group past.window.left old told new
