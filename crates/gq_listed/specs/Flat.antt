-- What it means that a number is found of a variable at each choice of a chunk.
use Rattle.std.specs.Prelude.{◌≡◌, ℕ, Option, Some, None, List}
use Rattle.gq_base.specs.Plain.{Graph}
use Rattle.gq_group.specs.Chunks.{assignment_at, node_at, node_in}
use Rattle.gq_group.specs.Groups.{AreSelected}
use Rattle.gq_group.specs.declared.chunk.Chunk.{Chunk}
use Rattle.gq_group.specs.declared.group.Group.{Group}
use Rattle.gq_group.specs.declared.home.NodeHome.{NodeHome}
use Rattle.gq_plan.specs.Rows.{as_read}
use Rattle.gq_plan.specs.declared.typed.Typed.{Typed}
use Rattle.gq_listed.specs.declared.finder.Way.{Way}
use Rattle.gq_listed.specs.declared.finder.Way.TheVariants as way
use Rattle.gq_listed.specs.Finding.{HasNumber}

-- a flat group has one position that may be selected
abbrev pub IsFlat : Option Group → Type 0
IsFlat None = ⊥
IsFlat (Some g) = (k : ℕ) × (g.current ≡ Some k)

-- a variable that lives there has one node at all choices of a chunk
abbrev pub IsFlatHome : Chunk → NodeHome → Type 0
IsFlatHome c h = (ps qs : List ℕ) → AreSelected c.groups.now ps → AreSelected c.groups.now qs → node_in c ps h ≡ node_in c qs h

-- the same of a variable
abbrev pub HasOneNode : Chunk → ℕ → Type 0
HasOneNode c v = (ps qs : List ℕ) → AreSelected c.groups.now ps → AreSelected c.groups.now qs → node_at c ps v ≡ node_at c qs v

abbrev pub IsFlatWay : Chunk → Way → Type 0
IsFlatWay c way.Value = ⊥
IsFlatWay c (way.Node r) = HasOneNode c r.variable
IsFlatWay c (way.Rel r) = ⊥

-- the number is found at each choice
abbrev pub IsHeldNumber : Graph → Typed → Chunk → Way → ℕ → Type 0
IsHeldNumber g y c w n = (ps : List ℕ) → AreSelected c.groups.now ps → HasNumber g w (as_read y (assignment_at g y c ps)) n
