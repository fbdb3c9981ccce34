-- The keys of what pipelines and plans make, and what the pipelines spend.
use Rattle.std.specs.Prelude.{◌≡◌, ◌≤◌, ◌+◌, ◌&&◌, ℕ, nat_eq, Bool, true, false, List, [], ◌∷◌, ◌++◌, length, map}
use Rattle.gq_base.specs.Plain.{Graph}
use Rattle.gq_base.specs.declared.NodeId.{NodeId}
use Rattle.gq_pipe.specs.Rest.{Rest}
use Rattle.gq_pipe.specs.Spending.{up_to_most}
use Rattle.gq_homes.specs.declared.spent.Spent.{Spent}
use Rattle.gq_plan.specs.Keys.{has_key, key_of}
use Rattle.gq_plan.specs.Meaning.{meaning, whole}
use Rattle.gq_plan.specs.Plans.{Plan, plan_of}
use Rattle.gq_plan.specs.declared.plan.Plan as code
use Rattle.gq_plan.specs.declared.typed.Typed.{Typed}
use Rattle.gq_exists.specs.Spending.{HasSpentEach, HasSpentFor}
use Rattle.gq_exists.specs.declared.gathering.Gathering.{Gathering}
use Rattle.gq_exists.specs.steps.Stored.{keys_in}

-- the keys of the assignments that a pipeline owes
abbrev pub owed_keys : Typed → ℕ → Rest → List (List NodeId)
owed_keys y n pipeline = map (key_of n) (map (whole y) pipeline.owed)

-- the keys of what a plan makes
abbrev pub made_keys : Graph → Typed → ℕ → code.Plan → List (List NodeId)
made_keys g y n p = map (key_of n) (meaning g y (plan_of p))

-- ---- what is spent

-- so many chunks were handed out, one for each key that was owed and is not any more
pub record Counted (begun now : Rest) : Type 0 where
  pub count : ℕ
  pub chunks : now.chunks ≡ up_to_most count
  pub keys : length begun.keys ≡ count + length now.keys
  pub most : count + length now.owed ≤ length begun.owed
  pub none : count ≡ 0 → now.owed ≡ begun.owed

-- so many until nothing was owed
pub record Ended (begun now : Rest) : Type 0 where
  pub count : ℕ
  pub chunks : now.chunks ≡ up_to_most count
  pub keys : count ≡ length begun.keys
  pub most : count ≤ length begun.owed
  pub none : count ≡ 0 → begun.owed ≡ []

-- one of what was owed, if anything was
abbrev pub one_of : {X : Type 0} → List X → ℕ
one_of [] = 0
one_of (x ∷ xs) = 1

-- where keys have no nodes the first chunk alone is handed out, else all are
pub record HasRun (width : ℕ) (begun now : Rest) : Type 0 where
  pub first : width ≡ 0 → now.chunks ≡ one_of begun.owed
  pub all : (width ≡ 0 → ⊥) → Ended begun now

-- what the pipeline of a plan spent stands behind what was spent before
pub record HasSpentOne (width : ℕ) (g : Graph) (y : Typed) (p : Plan) (old new : List Spent) : Type 0 where
  pub own : Spent
  pub all : new ≡ old ++ own ∷ []
  pub is : HasSpentFor width g y p own

-- no further key can differ
abbrev pub is_full_at : Gathering → Bool
is_full_at g = nat_eq g.width 0 && has_key [] (keys_in g.keys)

-- where that is so no pipeline ran, else those of the alternatives did
abbrev pub SpendsEach : Bool → ℕ → Graph → List Typed → List Plan → List Spent → Type 0
SpendsEach true width g ys ps more = more ≡ []
SpendsEach false width g ys ps more = HasSpentEach width g ys ps more

pub record HasSpentMore (full : Bool) (width : ℕ) (g : Graph) (ys : List Typed) (ps : List Plan) (old new : List Spent) : Type 0 where
  pub more : List Spent
  pub all : new ≡ old ++ more
  pub each : SpendsEach full width g ys ps more
