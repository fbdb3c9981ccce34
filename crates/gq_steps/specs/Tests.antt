-- What the tests of a group ask, and how its places may be found by that.
use Rattle.std.specs.Prelude.{◌≡◌, ◌≢◌, ◌⊎◌, ℕ, ◌+◌, ◌<◌, ◌==◌, if◌then◌else◌, Bool, Option, Some, None, length, slice_get}
use Rattle.gq_plan.specs.Conditions.{passes}
use Rattle.gq_plan.specs.Meaning.{holds}
use Rattle.gq_plan.specs.Plans.{Step, Extend, Keep, Differ, NoLoop}
use Rattle.gq_plan.specs.Rows.{as_read, node_table, rel_table}
use Rattle.gq_plan.specs.declared.assignment.Assignment.{Assignment}
use Rattle.gq_plan.specs.declared.follow.Follow.{Follow}
use Rattle.gq_plan.specs.declared.typed.RelPair.{RelPair}
use Rattle.gq_plan.specs.declared.typed.Typed.{Typed}
use Rattle.gq_plan.specs.declared.typed.TypedRel.{TypedRel}
use Rattle.gq_steps.specs.Actions.{action_of}
use Rattle.gq_steps.specs.Levels.{Run, step_at}
use Rattle.gq_steps.specs.declared.action.Action.TheVariants as act
use Rattle.gq_steps.specs.declared.cut.Cut.{Cut}
use Rattle.gq_steps.specs.declared.cut.Cut.TheVariants as cut

-- the test that a step asks for, if it is one
abbrev pub test_of : Step → Option ℕ
test_of (Keep i) = Some i
test_of s = None

-- the pair that a step asks to differ, if it asks for one
abbrev pub pair_of : Step → Option ℕ
pair_of (Differ p) = Some p
pair_of s = None

-- the relationship variable that a step asks to be no loop, if it asks for one
abbrev pub loop_of : Step → Option ℕ
loop_of (NoLoop x) = Some x
loop_of s = None

-- how a step follows a relationship to a node that was not bound, if it does
abbrev pub follow_of : Step → Option Follow
follow_of (Extend column x from to direction) = Some (record { rel = x; from = from; to = to; direction = direction })
follow_of s = None

-- whether a test of the alternative is true of rows and load numbers
abbrev pub passes_with : Run → Assignment → ℕ → Bool
passes_with c row i = holds (passes c.graph (as_read c.typed row)) (slice_get c.typed.tests i)

-- the step at a depth is a test that rows alone decide
pub record IsRowTest (c : Run) (d : ℕ) : Type 0 where
  pub test : ℕ
  pub is : test_of (step_at c d) ≡ Some test
  pub reads : (old new : Assignment) → old.nodes ≡ new.nodes → passes_with c old test ≡ passes_with c new test

-- the other relationship variable of a pair
abbrev pub other_of : ℕ → RelPair → ℕ
other_of x p = if p.first == x then p.second else p.first

-- a pair is of a relationship variable and of another one of the same table
pub record IsPairWith (y : Typed) (x : ℕ) (pair : RelPair) : Type 0 where
  pub one : (pair.first ≡ x) ⊎ (pair.second ≡ x)
  pub apart : other_of x pair ≢ x
  pub low : other_of x pair < length y.rels
  pub same : rel_table y (other_of x pair) ≡ rel_table y x

-- the step at a depth asks that such a pair differs
pub record IsPairTest (c : Run) (d x : ℕ) : Type 0 where
  pub number : ℕ
  pub is : pair_of (step_at c d) ≡ Some number
  pub pair : RelPair
  pub there : slice_get c.typed.pairs number ≡ Some pair
  pub with : IsPairWith c.typed x pair

-- a relationship variable is followed between node variables of one table, one way or the other
pub record IsWithinTable (y : Typed) (f : Follow) : Type 0 where
  pub rel : TypedRel
  pub there : slice_get y.rels f.rel ≡ Some rel
  pub ends : ((rel.source ≡ f.from) × (rel.target ≡ f.to)) ⊎ ((rel.source ≡ f.to) × (rel.target ≡ f.from))
  pub same : node_table y f.from ≡ node_table y f.to

-- the step at a depth asks that such a relationship is no loop
pub record IsLoopTest (c : Run) (d : ℕ) (f : Follow) : Type 0 where
  pub is : loop_of (step_at c d) ≡ Some f.rel
  pub within : IsWithinTable c.typed f

-- the step at a depth is a test that rows alone decide, or asks that the relationship that a group follows is no loop
abbrev pub RowsDecide : Run → ℕ → Follow → Type 0
RowsDecide c d f = IsRowTest c d ⊎ IsLoopTest c d f

-- or it asks that this relationship differs from another one
abbrev pub IsListTest : Run → ℕ → Follow → Type 0
IsListTest c d f = IsRowTest c d ⊎ (IsPairTest c d f.rel ⊎ IsLoopTest c d f)

-- a step behind the first one of a group and before another follows a relationship variable so
pub record IsFollowed (c : Run) (first d x : ℕ) (f : Follow) : Type 0 where
  pub depth : ℕ
  pub above : first < depth
  pub below : depth < d
  pub is : follow_of (step_at c depth) ≡ Some f
  pub rel : f.rel ≡ x

-- both relationships of a pair are of one table, and such steps follow them in one direction
pub record AreFollowed (c : Run) (first d : ℕ) (pair : RelPair) : Type 0 where
  pub one : Follow
  pub other : Follow
  pub ones : IsFollowed c first d pair.first one
  pub others : IsFollowed c first d pair.second other
  pub way : one.direction ≡ other.direction
  pub same : rel_table c.typed pair.first ≡ rel_table c.typed pair.second

-- the step at a depth asks that such a pair differs
pub record IsEndsTest (c : Run) (first d : ℕ) : Type 0 where
  pub number : ℕ
  pub is : pair_of (step_at c d) ≡ Some number
  pub pair : RelPair
  pub there : slice_get c.typed.pairs number ≡ Some pair
  pub followed : AreFollowed c first d pair

-- it follows a relationship to a node that was not bound, or is a test that rows alone decide
abbrev pub GoesOn : Run → ℕ → ℕ → Type 0
GoesOn c first d = ((f : Follow) × (follow_of (step_at c d) ≡ Some f)) ⊎ (IsRowTest c d ⊎ IsEndsTest c first d)

-- so the places are found of the group of the steps from one on up to another
abbrev pub IsCut : Run → ℕ → ℕ → Cut → Type 0
IsCut c first end cut.Each = Unit {0}
IsCut c first end cut.Rows = (d : ℕ) → first < d → d < end → (i : ℕ) × (test_of (step_at c d) ≡ Some i)
IsCut c first end cut.List = (f : Follow) → action_of (step_at c first) ≡ act.List f → (d : ℕ) → first < d → d < end → RowsDecide c d f
IsCut c first end cut.Pairs = (f : Follow) → action_of (step_at c first) ≡ act.List f → (d : ℕ) → first < d → d < end → IsListTest c d f
IsCut c first end cut.Told = first + 1 < end
IsCut c first end cut.Refused = Unit {0}
IsCut c first end cut.Chain = (d : ℕ) → first < d → d < end → GoesOn c first d
