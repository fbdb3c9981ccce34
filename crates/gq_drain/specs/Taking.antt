-- What a table of rows takes of the outcomes of what a pipeline owes, where it stops, and how many chunks the pipeline handed out.
use Rattle.std.specs.Prelude.{◌≡◌, ◌⊎◌, ◌<◌, ◌≤◌, ◌+◌, ℕ, true, Some, Result, Ok, Err, List, [], ◌++◌, IsPermutation, length}
use Rattle.std.specs.List.{Contains}
use Rattle.gq_base.specs.Plain.{Graph}
use Rattle.gq_expr.specs.declared.Fault.{Fault}
use Rattle.gq_kept.specs.Answers.{kept, looked_at, rows_in}
use Rattle.gq_kept.specs.Chunks.{Stands}
use Rattle.gq_kept.specs.Tables.{Table, is_full_table}
use Rattle.gq_kept.specs.declared.refusal.RowRefusal.{RowRefusal}
use Rattle.gq_kept.specs.declared.refusal.RowRefusal.TheVariants as refusal
use Rattle.gq_pipe.specs.Bound.{binds_all}
use Rattle.gq_pipe.specs.Progress.{plan_in}
use Rattle.gq_pipe.specs.Rest.{Rest}
use Rattle.gq_pipe.specs.Spending.{up_to_most}
use Rattle.gq_plan.specs.Outcomes.{Row}
use Rattle.gq_plan.specs.declared.Bound.{Bound}

-- ---- outcomes

-- some of these outcomes in some order, and the others
pub record Cut (os : List (Result Row Fault)) : Type 0 where
  pub pushed : List (Result Row Fault)
  pub left : List (Result Row Fault)
  pub bag : IsPermutation os (pushed ++ left)

-- the same query, and as many rows may be kept
pub record IsAlike (old new : Table) : Type 0 where
  pub bound : new.bound ≡ old.bound
  pub most : new.most ≡ old.most

-- some of the outcomes were taken: all of them, or as many as the table holds
pub record Takes (os : List (Result Row Fault)) (old new : Table) : Type 0 where
  pub cut : Cut os
  pub alike : IsAlike old new
  pub stands : (before : List (Result Row Fault)) → Stands before old → Stands (before ++ cut.pushed) new
  pub done : (is_full_table new ≡ true) ⊎ (cut.left ≡ [])

-- a fault is looked at among them
pub record MeetsFault (os : List (Result Row Fault)) (old : Table) (f : Fault) : Type 0 where
  pub cut : Cut os
  pub seen : (before : List (Result Row Fault)) → Stands before old
      → Contains (looked_at old.bound (before ++ cut.pushed)) (Err f)

-- more rows are kept of them than may be
pub record MeetsMany (os : List (Result Row Fault)) (old : Table) : Type 0 where
  pub cut : Cut os
  pub many : (before : List (Result Row Fault)) → Stands before old
      → old.most < kept old.bound (rows_in (before ++ cut.pushed))

-- how these outcomes end a table's turn; want of memory is free
abbrev pub TakesAll : List (Result Row Fault) → Table → Table → Result (Unit {0}) RowRefusal → Type 0
TakesAll os old new (Ok _) = Takes os old new
TakesAll os old new (Err (refusal.Fault f)) = MeetsFault os old f
TakesAll os old new (Err (refusal.TooManyRows most)) = (most ≡ old.most) × MeetsMany os old
TakesAll os old new (Err (refusal.Memory why)) = Unit {0}

-- ---- pipelines

-- a pipeline over the table's graph runs the alternative that was started, and its plan binds all variables
pub record IsRunOf (g : Graph) (table : Table) (pipeline : Rest) : Type 0 where
  pub graph : pipeline.source.graph ≡ g
  pub alternative : table.alternative ≡ Some pipeline.source.typed
  pub started : table.graph ≡ g
  pub complete : binds_all pipeline.source.typed (plan_in pipeline.source) ≡ true

-- a query has neither optional clauses nor trails
abbrev pub IsPlain : Bound → Type 0
IsPlain b = (b.optionals ≡ []) × (b.trails ≡ [])

-- so many chunks were handed out until nothing was owed or the table was full; where the query is plain the table counted as many
pub record HasRun (old new : Table) (begun now : Rest) : Type 0 where
  pub count : ℕ
  pub chunks : now.chunks ≡ up_to_most count
  pub pushed : IsPlain old.bound → (before : ℕ) → old.pushed ≡ up_to_most before → new.pushed ≡ up_to_most (before + count)
  pub keys : (is_full_table new ≡ true) ⊎ (count ≡ length begun.keys)
  pub most : count ≤ length begun.owed
  pub none : count ≡ 0 → begun.owed ≡ []
