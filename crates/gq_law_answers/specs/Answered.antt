-- What an alternative allows, what its late conjuncts keep, and what plans make.
use Rattle.std.specs.Prelude.{Bool, List, [], ◌∷◌, ◌++◌, filter, length, slice_get}
use Rattle.std.specs.List.{list_all}
use Rattle.gq_base.specs.Plain.{Graph}
use Rattle.gq_plan.specs.Assignments.{Assignment, assignments, row_of}
use Rattle.gq_plan.specs.Conditions.{allows, passes}
use Rattle.gq_plan.specs.Meaning.{holds, meaning}
use Rattle.gq_plan.specs.Plans.{Plan}
use Rattle.gq_plan.specs.declared.NamedExpr.{NamedExpr}
use Rattle.gq_plan.specs.declared.Typed.{Typed}

-- all conjuncts are true of an assignment
abbrev pub all_pass : Graph → List NamedExpr → Assignment → Bool
all_pass g conjuncts t = list_all (passes g (row_of t)) conjuncts

-- the late ones of an alternative are, which it names by their numbers
abbrev pub late_pass : Graph → List NamedExpr → Typed → Assignment → Bool
late_pass g conjuncts y t =
    list_all (λ i. holds (passes g (row_of t)) (slice_get conjuncts i)) y.late

-- the assignments that an alternative allows
abbrev pub allowed : Graph → Typed → List Assignment
allowed g y = filter (allows g y) (assignments (length y.nodes) (length y.rels) g)

-- what plans make, one for each alternative
abbrev pub meanings : Graph → List Typed → List Plan → List Assignment
meanings g [] ps = []
meanings g (y ∷ ys) [] = []
meanings g (y ∷ ys) (p ∷ ps) = meaning g y p ++ meanings g ys ps
