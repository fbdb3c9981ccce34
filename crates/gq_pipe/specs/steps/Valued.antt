-- Joins whose matches are found by a value: a test asks a property of a node of the build to be equal to one of a node that stands.
use Rattle.std.specs.Prelude.{◌≡◌, ℕ, ℤ, ◌+◌, ◌*◌, ◌<◌, ◌≤◌, ◌⊎◌, Bool, true, false, Option, Some, None, List, map, length, slice_get, slice_index_or}
use Rattle.std.specs.List.{range_with_len}
use Rattle.gq_bits.specs.Places.{is_marked}
use Rattle.gq_bits.specs.declared.TheConstants.{VECTOR}
use Rattle.gq_filter.specs.Equal.{AreOne, node_cell, row_cell}
use Rattle.gq_filter.specs.declared.equalities.NodeColumn.{NodeColumn}
use Rattle.gq_index.specs.Integers.{number_of}
use Rattle.gq_index.specs.Numbered.{has, HasRows, IsRising}
use Rattle.gq_join.specs.Kept.{Held, node_in, place_of}
use Rattle.gq_plan.specs.Plans.{Plan, Step, Join, Keep, Differ, NoLoop}
use Rattle.gq_plan.specs.declared.assignment.Assignment.{Assignment}
use Rattle.gq_same_texts.specs.Same.{Dicts, IsCellOf, Turns}
use Rattle.gq_steps.specs.Groups.{group_at}
use Rattle.gq_steps.specs.Levels.{Run, step_at}
use Rattle.gq_steps.specs.declared.group_steps.GroupSteps.{GroupSteps}
use Rattle.gq_steps.specs.steps.Outcomes.{passes_at}
use Rattle.gq_pipe.specs.declared.value_joins.TwoDicts.{TwoDicts}
use Rattle.gq_pipe.specs.declared.valued.ValueIndex.{ValueIndex}

-- ---- values as numbers

abbrev pub number_in : Option ℤ → Option ℕ
number_in None = None
number_in (Some z) = Some (number_of z)

-- what a cell asks for is this as a build's cell: it is itself, or a text by its code in the build's dictionary
abbrev pub IsAsked : Option Dicts → Option ℤ → Option ℤ → Type 0
IsAsked None cell value = value ≡ cell
IsAsked (Some texts) cell value = Turns texts cell value

-- a build's cell and another one have one number, or one text
abbrev pub HaveOneBy : Option Dicts → Option ℤ → Option ℤ → Type 0
HaveOneBy None own asked = AreOne own asked
HaveOneBy (Some texts) own asked = (text : List ℕ) × IsCellOf texts.to text own × IsCellOf texts.from text asked

-- the texts of two dictionaries, if there are two
abbrev pub dicts_of : Option TwoDicts → Option Dicts
dicts_of None = None
dicts_of (Some d) = Some (record { from = d.from.now; to = d.to.now })

-- whether a value is asked for, and is that of a cell
abbrev pub finds : Option ℕ → Option ℕ → Bool
finds None cell = false
finds (Some v) cell = has v cell

-- the numbers of a property of a node that a build keeps, row by row
abbrev pub numbers_in : Held → NodeColumn → List (Option ℕ)
numbers_in h own = map (λ i. number_in (row_cell own (node_in h own.node i))) (range_with_len 0 (length h.rows))

-- the number of the row that stands at a place of some
abbrev pub number_at : List (Option ℕ) → List ℕ → ℕ → Option ℕ
number_at cells rows place = slice_index_or cells (slice_index_or rows place 0) None

-- ---- joins

-- the step at a depth is a join, and this is its build
pub record IsBuildOf (c : Run) (d : ℕ) (h : Held) : Type 0 where
  pub side : Plan
  pub keys : List ℕ
  pub join : step_at c d ≡ Join side keys
  pub build : slice_index_or c.builds d None ≡ Some h
  pub inside : d < length c.steps

-- a step that binds nothing
abbrev pub is_test : Step → Bool
is_test (Keep i) = true
is_test (Differ p) = true
is_test (NoLoop x) = true
is_test s = false

-- the step at a depth is a test that is true only where two properties are equal, one of a node that a build keeps, the other of one that it does not keep
pub record AsksEqual (c : Run) (d : ℕ) (h : Held) (own asked : NodeColumn) (texts : Option Dicts) : Type 0 where
  pub test : ℕ
  pub keeps : step_at c d ≡ Keep test
  pub equal : (row : Assignment) → passes_at c.graph c.typed row test ≡ true → HaveOneBy texts (node_cell own row) (node_cell asked row)
  pub kept : place_of h.nodes own.node < length h.nodes
  pub apart : length h.nodes ≤ place_of h.nodes asked.node

-- a group begins with such a join, and between it and such a test nothing is bound
pub record IsValueJoin (c : Run) (group : GroupSteps) (h : Held) (own asked : NodeColumn) (texts : Option Dicts) : Type 0 where
  pub join : IsBuildOf c group.first h
  pub depth : ℕ
  pub above : group.first < depth
  pub below : depth < group.end
  pub before : (d : ℕ) → group.first < d → d < depth → is_test (step_at c d) ≡ true
  pub asks : AsksEqual c depth h own asked texts

-- ---- indexes

-- a group joins by a value; once its index stands, the rows of the build stand beside their values
pub record IsIndexed (c : Run) (group : GroupSteps) (t : ValueIndex) : Type 0 where
  pub join : IsValueJoin c group t.build.now t.own t.asked t.texts
  pub places : t.stands ≡ true → HasRows (numbers_in t.build.now t.own) t.places

abbrev pub AreIndexed : Run → List GroupSteps → List (Option ValueIndex) → Type 0
AreIndexed c ss ts = (depth : ℕ) (t : ValueIndex) → slice_get ts depth ≡ Some (Some t) → IsIndexed c (group_at ss depth) t

-- the rows of its build can be filled in
pub record IsUsable (t : ValueIndex) : Type 0 where
  pub kept : place_of t.build.now.nodes t.own.node < length t.build.now.nodes

-- one more opening: an index that stands afterwards stood before, or has all rows now
pub record IsOpened (old new : ValueIndex) : Type 0 where
  pub asked : new.asked ≡ old.asked
  pub own : new.own ≡ old.own
  pub build : new.build.now ≡ old.build.now
  pub texts : new.texts ≡ old.texts
  pub places : new.stands ≡ true → ((old.stands ≡ true) × (new.places ≡ old.places)) ⊎ HasRows (numbers_in old.build.now old.own) new.places

-- each of several is as it was, or was opened once more
abbrev pub AreOpened : List (Option ValueIndex) → List (Option ValueIndex) → Type 0
AreOpened olds news = (depth : ℕ) (u : ValueIndex) → slice_get news depth ≡ Some (Some u) → (t : ValueIndex) × (slice_get olds depth ≡ Some (Some t)) × ((u ≡ t) ⊎ IsOpened t u)

-- the marks of those of a piece of some rows at which a value stands
pub record IsFoundBy (places rows : List ℕ) (value : Option ℤ) (piece : ℕ) (marks : List Bool) : Type 0 where
  pub whole : length marks ≡ VECTOR
  pub each : (cells : List (Option ℕ)) (k : ℕ) → HasRows cells places → IsRising rows → k < VECTOR → VECTOR * piece + k < length rows → is_marked marks k ≡ finds (number_in value) (number_at cells rows (VECTOR * piece + k))
  pub past : (k : ℕ) → length rows ≤ VECTOR * piece + k → is_marked marks k ≡ false

-- the same of the value that is asked for
pub record IsFoundIn (t : ValueIndex) (rows : List ℕ) (piece : ℕ) (row : Assignment) (marks : List Bool) : Type 0 where
  pub value : Option ℤ
  pub asked : IsAsked t.texts (node_cell t.asked row) value
  pub by : IsFoundBy t.places rows value piece marks

-- at none of some rows from one piece on up to another one a value stands
pub record IsNotBy (places rows : List ℕ) (value : Option ℤ) (piece next : ℕ) : Type 0 where
  pub later : piece ≤ next
  pub blank : (cells : List (Option ℕ)) (k : ℕ) → HasRows cells places → IsRising rows → VECTOR * piece ≤ k → k < VECTOR * next → k < length rows → finds (number_in value) (number_at cells rows k) ≡ false

-- the same of the value that is asked for
pub record IsNotBefore (t : ValueIndex) (rows : List ℕ) (piece : ℕ) (row : Assignment) (next : ℕ) : Type 0 where
  pub later : piece ≤ next
  pub value : Option ℤ
  pub asked : IsAsked t.texts (node_cell t.asked row) value
  pub by : IsNotBy t.places rows value piece next
