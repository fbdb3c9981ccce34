-- Positions of a group at which a key comes behind a bar.
use Rattle.std.specs.Prelude.{◌≡◌, ℕ, ◌+◌, Bool, true, false, Ok, List, slice_index}
use Rattle.gq_base.specs.Plain.{Graph}
use Rattle.gq_base.specs.Values.{Val}
use Rattle.gq_bits.specs.Places.{is_marked}
use Rattle.gq_cells.specs.Behind.{IsBehindBar}
use Rattle.gq_expr.specs.Meaning.{meaning}
use Rattle.gq_expr.specs.Reading as reading
use Rattle.gq_expr.specs.declared.expr.Expr.{Expr}
use Rattle.gq_group.specs.Chunks.{assignment_at}
use Rattle.gq_group.specs.Groups.{AreSelected}
use Rattle.gq_group.specs.declared.chunk.Chunk.{Chunk}
use Rattle.gq_plan.specs.Assignments.{row_of}
use Rattle.gq_plan.specs.Rows.{assigned}
use Rattle.gq_plan.specs.declared.typed.Typed.{Typed}
use Rattle.gq_listed.specs.declared.window.Window.{Window}

-- the position of the window's group is not left
abbrev pub IsIn : Window → List ℕ → Type 0
IsIn w ps = is_marked w.left (slice_index ps w.group) ≡ false

-- a position was not left before, or is marked by how far it stands from a first one
pub record IsTaken (first : ℕ) (behind : List Bool) (k : ℕ) : Type 0 where
  pub far : ℕ
  pub at : k ≡ first + far
  pub marked : is_marked behind far ≡ true

abbrev pub IsTold : List Bool → ℕ → List Bool → ℕ → Type 0
IsTold left first behind k = (is_marked left k ≡ true → IsTaken first behind k)

-- the key has a value that comes behind the bar
pub record IsKeyBehind (g : Graph) (here : reading.Assignment) (key : Expr) (down : Bool) (bar : Val) : Type 0 where
  pub value : Val
  pub means : meaning g here key ≡ Ok value
  pub behind : IsBehindBar down bar value

-- it has at each position that is not left
abbrev pub AreBehind : Graph → Typed → Chunk → Window → Expr → Bool → Val → Type 0
AreBehind g y c w key down bar = (ps : List ℕ) → AreSelected c.groups.now ps → IsIn w ps → IsKeyBehind g (row_of (assigned y (assignment_at g y c ps))) key down bar
