-- The law that a plan which covers an alternative means what the alternative allows.
use Rattle.std.specs.Prelude.{IsTrue, IsPermutation, filter, length}
use Rattle.gq_base.specs.Plain.{Graph}
use Rattle.gq_base.specs.Valid.{is_valid}
use Rattle.gq_plan.specs.Assignments.{assignments}
use Rattle.gq_plan.specs.Conditions.{allows}
use Rattle.gq_plan.specs.Covers.{Covers}
use Rattle.gq_plan.specs.Meaning.{meaning}
use Rattle.gq_plan.specs.Soundness.{IsSound}
use Rattle.gq_plan.specs.Plans.{Plan}
use Rattle.gq_plan.specs.declared.typed.Typed.{Typed}

-- in a valid graph, a plan that covers a sound alternative makes the assignments that the alternative allows, each once
abbrev pub PlansMeanAllowed : Type 0
PlansMeanAllowed =
    (g : Graph) (y : Typed) (p : Plan) → IsTrue (is_valid g) → IsSound g.catalog y → Covers g.catalog y p
    → IsPermutation (meaning g y p) (filter (allows g y) (assignments (length y.nodes) (length y.rels) g))
