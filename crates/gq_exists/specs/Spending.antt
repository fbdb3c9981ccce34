-- What the pipelines spend that run for the keys of a path (this project's profile).
use Rattle.std.specs.Prelude.{◌≡◌, ℕ, zero, suc, List, [], ◌∷◌}
use Rattle.gq_base.specs.Plain.{Graph}
use Rattle.gq_pipe.specs.Spending.{HasSpentAll}
use Rattle.gq_homes.specs.declared.spent.Spent.{Spent}
use Rattle.gq_plan.specs.Assignments.{Assignment}
use Rattle.gq_plan.specs.Columns.{columns_of}
use Rattle.gq_plan.specs.Meaning.{meaning}
use Rattle.gq_plan.specs.Plans.{Plan}
use Rattle.gq_plan.specs.declared.typed.Typed.{Typed}

-- one chunk where there is a match
abbrev pub one_chunk : List Assignment → ℕ
one_chunk [] = 0
one_chunk (t ∷ ts) = 1

-- the pipeline of a plan, by how many variables the path shares: without any it ends at the first chunk, else it hands out all
abbrev pub HasSpentFor : ℕ → Graph → Typed → Plan → Spent → Type 0
HasSpentFor zero g y p s = (s.columns ≡ columns_of y p) × (s.chunks ≡ one_chunk (meaning g y p))
HasSpentFor (suc n) g y p s = HasSpentAll g y p s

-- without any no further one runs behind a match
abbrev pub GoesOn : ℕ → List Assignment → Type 0 → List Spent → Type 0
GoesOn zero [] more ss = more
GoesOn zero (t ∷ ts) more ss = ss ≡ []
GoesOn (suc n) ts more ss = more

-- the pipelines of the plans of alternatives, one after another
abbrev pub HasSpentEach : ℕ → Graph → List Typed → List Plan → List Spent → Type 0
HasSpentEach n g [] ps ss = ss ≡ []
HasSpentEach n g (y ∷ ys) [] ss = ss ≡ []
HasSpentEach n g (y ∷ ys) (p ∷ ps) [] = ⊥
HasSpentEach n g (y ∷ ys) (p ∷ ps) (s ∷ ss) = HasSpentFor n g y p s × GoesOn n (meaning g y p) (HasSpentEach n g ys ps ss) ss
