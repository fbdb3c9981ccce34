-- Where the numbers of columns lie in a chunk.
use Rattle.std.specs.Prelude.{◌≡◌, Some, List, slice_get}
use Rattle.std.specs.List.{All}
use Rattle.gq_base.specs.Plain.{Graph}
use Rattle.gq_expr.specs.Reading as reading
use Rattle.gq_group.specs.Chunks.{IsChunkOf, assignment_at}
use Rattle.gq_group.specs.Groups.{AreSelected}
use Rattle.gq_group.specs.declared.chunk.Chunk.{Chunk}
use Rattle.gq_group.specs.declared.home.NodeHome.{NodeHome}
use Rattle.gq_group.specs.declared.home.NodeHome.TheVariants as home
use Rattle.gq_plan.specs.Assignments as plain
use Rattle.gq_plan.specs.Rows.{assigned}
use Rattle.gq_plan.specs.declared.typed.Typed.{Typed}
use Rattle.gq_plan.specs.declared.typed.TypedRel.{TypedRel}
use Rattle.gq_listed.specs.Flat.{IsHeldNumber}
use Rattle.gq_listed.specs.declared.finder.Finder.{Finder}
use Rattle.gq_listed.specs.declared.finder.Lead.{Lead}
use Rattle.gq_listed.specs.declared.finder.Lead.TheVariants as lead
use Rattle.gq_listed.specs.declared.finder.Way.{Way}
use Rattle.gq_listed.specs.declared.finder.Way.TheVariants as way
use Rattle.gq_listed.specs.declared.leads.Spot.{Spot}

-- a node variable of a way has nodes of the way's table
abbrev pub HasTable : Typed → Way → Type 0
HasTable y way.Value = ⊥
HasTable y (way.Node r) = slice_get y.nodes r.variable ≡ Some r.table
HasTable y (way.Rel r) = ⊥

-- the same of a relationship variable
abbrev pub HasRelTable : Typed → Way → Type 0
HasRelTable y way.Value = ⊥
HasRelTable y (way.Node r) = ⊥
HasRelTable y (way.Rel r) = (rel : TypedRel) × (slice_get y.rels r.variable ≡ Some rel) × (rel.table ≡ r.table)

-- it lives there
abbrev pub LivesAt : Chunk → Way → NodeHome → Type 0
LivesAt c way.Value h = ⊥
LivesAt c (way.Node r) h = slice_get c.homes.now.nodes r.variable ≡ Some h
LivesAt c (way.Rel r) h = ⊥

-- the number of a variable lies there at each choice of the chunk
abbrev pub IsLedBy : Graph → Typed → Chunk → Way → Lead → Type 0
IsLedBy g y c w lead.Unknown = Unit {0}
IsLedBy g y c w (lead.Held n) = IsHeldNumber g y c w n
IsLedBy g y c w (lead.Item i) = HasTable y w × LivesAt c w (home.Item i)
IsLedBy g y c w lead.Home = HasTable y w
IsLedBy g y c w lead.Edge = HasRelTable y w

abbrev pub IsLed : Graph → Typed → Chunk → Finder → Type 0
IsLed g y c f = IsLedBy g y c f.way f.lead

abbrev pub AreLed : Graph → Typed → Chunk → List Finder → Type 0
AreLed g y c fs = All (IsLed g y c) fs

-- ---- one position of each group

pub record IsSpot (s : Spot) : Type 0 where
  pub chunk : IsChunkOf s.graph.now s.typed.now s.chunk.now
  pub selected : AreSelected s.chunk.now.groups.now s.positions.now

-- the assignment there, and what expressions read of it
abbrev pub assignment_of : Spot → plain.Assignment
assignment_of s = assigned s.typed.now (assignment_at s.graph.now s.typed.now s.chunk.now s.positions.now)

abbrev pub here_at : Spot → reading.Assignment
here_at s = plain.row_of (assignment_of s)

abbrev pub IsLedAt : Spot → Finder → Type 0
IsLedAt s f = IsLed s.graph.now s.typed.now s.chunk.now f

abbrev pub AreLedAt : Spot → List Finder → Type 0
AreLedAt s fs = AreLed s.graph.now s.typed.now s.chunk.now fs
