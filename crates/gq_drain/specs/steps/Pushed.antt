-- How far a pipeline has come whose chunks are pushed into a table one after another.
use Rattle.std.specs.Prelude.{◌≡◌, ◌≤◌, ◌+◌, ℕ, Result, List, ◌++◌, IsPermutation, length}
use Rattle.gq_base.specs.Plain.{Graph}
use Rattle.gq_expr.specs.declared.Fault.{Fault}
use Rattle.gq_kept.specs.Chunks.{Stands}
use Rattle.gq_kept.specs.Tables.{Table}
use Rattle.gq_pipe.specs.Rest.{Rest}
use Rattle.gq_pipe.specs.Spending.{up_to_most}
use Rattle.gq_plan.specs.Assignments.{Assignment}
use Rattle.gq_plan.specs.Outcomes.{Row}
use Rattle.gq_drain.specs.Becoming.{Becomes, outcomes_by, owed_by}
use Rattle.gq_drain.specs.Taking.{IsPlain}

-- the outcomes of these assignments went into the table
pub record Pushed (becomes : Becomes) (g : Graph) (old new : Table) (begun now : Rest) : Type 0 where
  pub taken : List Assignment
  pub bag : IsPermutation (owed_by begun.source.typed begun) (taken ++ owed_by begun.source.typed now)
  pub stands : (before : List (Result Row Fault)) → Stands before old
      → Stands (before ++ outcomes_by becomes g old.bound begun.source.typed taken) new

-- so many chunks were handed out: one for each key that was owed and is not any more, each with an assignment; where the query is
-- plain the table counted as many
pub record Counted (old new : Table) (begun now : Rest) : Type 0 where
  pub count : ℕ
  pub chunks : now.chunks ≡ up_to_most count
  pub pushed : IsPlain old.bound → (before : ℕ) → old.pushed ≡ up_to_most before → new.pushed ≡ up_to_most (before + count)
  pub keys : length begun.keys ≡ count + length now.keys
  pub most : count + length now.owed ≤ length begun.owed
  pub none : count ≡ 0 → now.owed ≡ begun.owed
