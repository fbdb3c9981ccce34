-- Where each row that is left has its one outcome, what is made of an alternative's own rows, by its late conjuncts, are the late outcomes.
use Rattle.std.proofs.Common.{◌≡◌, List, [], ◌∷◌}
use Rattle.gq_base.specs.Plain.{Graph}
use Rattle.gq_plan.specs.Assignments.{Assignment}
use Rattle.gq_plan.specs.Marked.{ending, made_of}
use Rattle.gq_plan.specs.Outcomes.{late_conjuncts, late_outcomes}
use Rattle.gq_plan.specs.declared.Bound.{Bound}
use Rattle.gq_plan.specs.declared.Typed.{Typed}
use Rattle.gq_plan.proofs.Marks.{made_plainly}

pub plain_late_rows : (g : Graph) (bound : Bound) (y : Typed) (ts : List Assignment)
    → made_of g (late_conjuncts bound y) (λ m. ending g bound m ∷ []) ts ≡ late_outcomes g bound y ts
plain_late_rows g bound y ts = made_plainly g bound (late_conjuncts bound y) ts
