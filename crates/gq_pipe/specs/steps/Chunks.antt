-- The groups of the chunk that stands: the piece of each group's whole list, and the marks of its positions.
use Rattle.std.specs.Prelude.{◌≡◌, ◌<◌, ◌≤◌, ◌*◌, ◌/◌, ◌^◌, ◌%◌, ◌==◌, ℕ, Bool, true, false, Option, Some, None, List, [], length, slice_get, slice_index_or}
use Rattle.gq_bits.specs.declared.TheConstants.{VECTOR}
use Rattle.gq_bits.specs.Places.{is_marked}
use Rattle.gq_group.specs.Pieces.{first_of}
use Rattle.gq_group.specs.declared.group.Group.{Group}
use Rattle.gq_plan.specs.declared.assignment.Assignment.{Assignment}
use Rattle.gq_search.specs.Layouts.{piece_of}
use Rattle.gq_search.specs.Running.{Runs, cursor_at, keys_of}
use Rattle.gq_search.specs.declared.walker.Cursor.{Cursor}
use Rattle.gq_law_groups.specs.Groups.{makes_group}
use Rattle.gq_steps.specs.Actions.{action_of}
use Rattle.gq_steps.specs.Levels.{Run, step_at, known}
use Rattle.gq_steps.specs.Moves.{IsRun, IsHeld}
use Rattle.gq_steps.specs.steps.Lists.{layout_in, EarlierStand}
use Rattle.gq_steps.specs.Groups.{group_at}
use Rattle.gq_steps.specs.declared.group_steps.GroupSteps.{GroupSteps}
use Rattle.gq_steps.specs.Pieces.{IsPieceOf, KeepsOf, list_of}

-- a flat group has its current position marked alone, another group the places that its steps keep
abbrev pub marked_at : Bool → ℕ → List Bool → ℕ → Bool
marked_at true key marks p = p == key % VECTOR
marked_at false key marks p = is_marked marks p

abbrev pub current_at : Bool → ℕ → Option ℕ
current_at true key = Some (key % VECTOR)
current_at false key = None

-- a group stands at a number
pub record IsGroupAt (c : Run) (row : Assignment) (s : GroupSteps) (cursor : Cursor) (m : List Bool) (g : Group) : Type 0 where
  pub piece : IsPieceOf c s.first row (VECTOR * piece_of s.flat cursor.key) g.piece
  pub marks : (p : ℕ) → is_marked g.marks p ≡ marked_at s.flat cursor.key m p
  pub current : g.current ≡ current_at s.flat cursor.key
  pub kept : KeepsOf (slice_index_or c.builds s.first None) g.kept

pub record HasGroup (c : Run) (row : Assignment) (s : GroupSteps) (cursor : Cursor) (marks : List Bool) (gs : List Group) (i : ℕ) : Type 0 where
  pub group : Group
  pub there : slice_get gs i ≡ Some group
  pub is : IsGroupAt c row s cursor marks group

-- the groups before one stand at the numbers of their cursors
abbrev pub AreStanding : Run → List GroupSteps → Assignment → List Cursor → List (List Bool) → List Group → ℕ → Type 0
AreStanding c ss row cursors marks gs n = (i : ℕ) → i < n → HasGroup c row (group_at ss i) (cursor_at cursors i) (slice_index_or marks i []) gs i

-- groups stand at the numbers of some cursors
pub record StoodAt (c : Run) (ss : List GroupSteps) (gs : List Group) : Type 0 where
  pub row : Assignment
  pub cursors : List Cursor
  pub marks : List (List Bool)
  pub many : length cursors ≡ length ss
  pub stands : EarlierStand c ss row (keys_of cursors)
  pub runs : Runs (layout_in c ss) [] cursors marks
  pub groups : AreStanding c ss row cursors marks gs (length ss)

-- what a group shows of the number at which it stands is as for this one
pub record ShowsNumber (g : Group) (flat : Bool) (key : ℕ) : Type 0 where
  pub piece : first_of g.piece / VECTOR ≡ piece_of flat key
  pub current : flat ≡ true → g.current ≡ Some (key % VECTOR)

-- a group has a piece at the number of its cursor
pub record CanStand (c : Run) (row : Assignment) (s : GroupSteps) (cursor : Cursor) : Type 0 where
  pub run : IsRun c
  pub low : s.first < length c.steps
  pub action : s.action ≡ action_of (step_at c s.first)
  pub makes : makes_group (step_at c s.first) ≡ true
  pub held : IsHeld c row (known c s.first)
  pub inside : VECTOR * piece_of s.flat cursor.key ≤ length (list_of c s.first row (step_at c s.first))
  pub few : length (list_of c s.first row (step_at c s.first)) < 2 ^ 32
