-- What a table of rows takes of outcomes that are pushed to it one after another, and where it stops.
use Rattle.std.specs.Prelude.{◌≡◌, ℕ, ◌+◌, ◌-◌, ◌^◌, ◌<◌, min, Bool, true, false, Option, Some, None, Result, Ok, Err, List, [], ◌∷◌, ◌++◌, filter, map}
use Rattle.std.specs.List.{Contains}
use Rattle.gq_base.specs.Plain.{Graph}
use Rattle.gq_expr.specs.Reading as reading
use Rattle.gq_expr.specs.declared.Fault.{Fault}
use Rattle.gq_group.specs.Chunks.{IsChunkOf, chunk_meaning}
use Rattle.gq_group.specs.declared.chunk.Chunk.{Chunk}
use Rattle.gq_plan.specs.Assignments as plain
use Rattle.gq_plan.specs.Outcomes.{Row, late_outcomes}
use Rattle.gq_plan.specs.Rows.{assigned}
use Rattle.gq_plan.specs.declared.bound.Bound.{Bound}
use Rattle.gq_plan.specs.declared.typed.Typed.{Typed}
use Rattle.gq_kept.specs.Answers.{kept, looked_at, rows_in}
use Rattle.gq_kept.specs.Tables.{StandsFor, Table, is_full_table}
use Rattle.gq_kept.specs.declared.refusal.More.{More}
use Rattle.gq_kept.specs.declared.refusal.More.TheVariants as more
use Rattle.gq_kept.specs.declared.refusal.RowRefusal.{RowRefusal}
use Rattle.gq_kept.specs.declared.refusal.RowRefusal.TheVariants as refusal

-- a table stands for a listing of outcomes
abbrev pub Stands : List (Result Row Fault) → Table → Type 0
Stands outcomes table = StandsFor table.bound table.most outcomes table.held

-- a fault is looked at among them
pub record MeetsFault (os : List (Result Row Fault)) (old : Table) (f : Fault) : Type 0 where
  pub there : Contains os (Err f)
  pub seen : (before : List (Result Row Fault)) → Stands before old → Contains (looked_at old.bound (before ++ os)) (Err f)

-- more rows are kept of them than may be
abbrev pub MeetsMany : List (Result Row Fault) → Table → Type 0
MeetsMany os old = (before : List (Result Row Fault)) → Stands before old → old.most < kept old.bound (rows_in (before ++ os))

-- a table stands for each listing that it stood for, followed by the outcomes
abbrev pub TakesWhole : List (Result Row Fault) → Table → Table → Type 0
TakesWhole os old new = (before : List (Result Row Fault)) → Stands before old → Stands (before ++ os) new

-- what a table answers to outcomes; only want of memory may come at any time
abbrev pub PushesAll : List (Result Row Fault) → Table → Table → Result More RowRefusal → Type 0
PushesAll os old new (Ok more.Go) = TakesWhole os old new × (is_full_table new ≡ false)
PushesAll os old new (Ok more.Enough) = TakesWhole os old new × (is_full_table new ≡ true)
PushesAll os old new (Err (refusal.Fault f)) = MeetsFault os old f
PushesAll os old new (Err (refusal.TooManyRows limit)) = (limit ≡ old.most) × MeetsMany os old
PushesAll os old new (Err (refusal.Memory why)) = Unit {0}

-- ---- the outcomes of a chunk

-- the assignments of a chunk, with the tables of the alternative
abbrev pub assignments_of : Graph → Typed → Chunk → List plain.Assignment
assignments_of g y c = map (assigned y) (chunk_meaning g y c)

-- the outcomes of the assignments of a chunk, in order; none where no alternative was started
abbrev pub chunk_outcomes : Graph → Bound → Option Typed → Chunk → List (Result Row Fault)
chunk_outcomes g b None c = []
chunk_outcomes g b (Some y) c = late_outcomes g b y (assignments_of g y c)

-- the same of those that are admitted
abbrev pub admitted_outcomes : (reading.Assignment → Bool) → Graph → Bound → Option Typed → Chunk → List (Result Row Fault)
admitted_outcomes admitted g b None c = []
admitted_outcomes admitted g b (Some y) c = late_outcomes g b y (filter (λ t. admitted (plain.row_of t)) (assignments_of g y c))

-- a chunk of the alternative that was started, and of the graph
abbrev pub IsChunkIn : Graph → Option Typed → Chunk → Type 0
IsChunkIn g None c = ⊥
IsChunkIn g (Some y) c = IsChunkOf g y c

abbrev pub PushesChunk : Graph → Chunk → Table → Table → Result More RowRefusal → Type 0
PushesChunk g c old new answer = PushesAll (chunk_outcomes g old.bound old.alternative c) old new answer

abbrev pub PushesAdmitted : (reading.Assignment → Bool) → Graph → Chunk → Table → Table → Result More RowRefusal → Type 0
PushesAdmitted admitted g c old new answer =
    PushesAll (admitted_outcomes admitted g old.bound old.alternative c) old new answer

-- one more chunk is counted where it has a choice; the number stands still at the greatest of its type
abbrev pub counted : ℕ → List (List ℕ) → ℕ
counted n [] = n
counted n (ps ∷ pss) = min (n + 1) (2 ^ 64 - 1)
