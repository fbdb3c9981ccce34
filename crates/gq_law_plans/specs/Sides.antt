-- The law that the plan of a part counts the part's assignments.
use Rattle.std.specs.Prelude.{◌≡◌, IsTrue, length}
use Rattle.gq_base.specs.Plain.{Graph}
use Rattle.gq_base.specs.Valid.{is_valid}
use Rattle.gq_plan.specs.Meaning.{mean, nothing}
use Rattle.gq_plan.specs.Parts.{Part, IsPiece, IsSide, part_assignments}
use Rattle.gq_plan.specs.Soundness.{IsSound}
use Rattle.gq_plan.specs.Plans.{Plan}
use Rattle.gq_plan.specs.declared.typed.Typed.{Typed}

-- in a valid graph, a plan that makes a part of a sound alternative has as many assignments as the part
abbrev pub SidesCountParts : Type 0
SidesCountParts =
    (g : Graph) (y : Typed) (part : Part) (side : Plan)
    → IsTrue (is_valid g) → IsSound g.catalog y → IsPiece y part → IsSide g.catalog y part side
    → length (mean g y side nothing) ≡ length (part_assignments g y part)
