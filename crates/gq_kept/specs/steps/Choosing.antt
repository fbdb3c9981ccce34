-- How far a chunk was pushed.
use Rattle.std.specs.Prelude.{◌≡◌, ℕ, Bool, true, false, Result, List, [], ◌∷◌, ◌++◌, filter, map}
use Rattle.gq_base.specs.Plain.{Graph}
use Rattle.gq_expr.specs.Reading as reading
use Rattle.gq_expr.specs.declared.Fault.{Fault}
use Rattle.gq_group.specs.Choices.{Chosen, IsChoice}
use Rattle.gq_group.specs.Chunks.{assignment_at}
use Rattle.gq_group.specs.Groups.{choices, later_choices}
use Rattle.gq_group.specs.declared.chunk.Chunk.{Chunk}
use Rattle.gq_group.specs.declared.group.Group.{Group}
use Rattle.gq_plan.specs.Assignments.{row_of}
use Rattle.gq_plan.specs.Outcomes.{Row, late_outcomes}
use Rattle.gq_plan.specs.Rows.{assigned}
use Rattle.gq_plan.specs.declared.bound.Bound.{Bound}
use Rattle.gq_plan.specs.declared.typed.Typed.{Typed}
use Rattle.gq_kept.specs.Chunks.{Stands}
use Rattle.gq_kept.specs.Tables.{Table}

-- the choices that are still to be pushed, the one that stands first
abbrev pub choices_left : List Group → Bool → Chosen → List (List ℕ)
choices_left gs true c = c.positions ∷ later_choices gs c.positions
choices_left gs false c = []

-- the outcomes of those of some choices that are admitted
abbrev pub outcomes_of : (reading.Assignment → Bool) → Graph → Bound → Typed → Chunk → List (List ℕ) → List (Result Row Fault)
outcomes_of admitted g b y c pss =
    late_outcomes g b y (filter (λ t. admitted (row_of t)) (map (assigned y) (map (assignment_at g y c) pss)))

-- the outcomes of a front of the choices went into the table
pub record Came (admitted : reading.Assignment → Bool) (g : Graph) (y : Typed) (c : Chunk) (old new : Table) (found : Bool) (choice : Chosen) : Type 0 where
  pub taken : List (List ℕ)
  pub whole : choices c.groups.now ≡ taken ++ choices_left c.groups.now found choice
  pub chosen : found ≡ true → IsChoice c.groups.now choice
  pub stands : (before : List (Result Row Fault)) → Stands before old → Stands (before ++ outcomes_of admitted g old.bound y c taken) new
