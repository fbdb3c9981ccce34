-- What plans make, and the laws that they make only this and that what lies in an alternative fits its kinds.
use Rattle.std.specs.Prelude.{◌≡◌, IsTrue, All, length}
use Rattle.std.specs.List.{list_all}
use Rattle.gq_base.specs.Plain.{Graph}
use Rattle.gq_base.specs.Valid.{is_valid}
use Rattle.gq_expr.specs.Safety.{FitsKinds}
use Rattle.gq_plan.specs.Allowed.{lies_in}
use Rattle.gq_plan.specs.Assignments.{Assignment, row_of, is_node, is_rel}
use Rattle.gq_plan.specs.Conditions.{passes, differs}
use Rattle.gq_plan.specs.Covers.{Covers}
use Rattle.gq_plan.specs.Meaning.{meaning}
use Rattle.gq_plan.specs.Soundness.{IsSound, kinds_of}
use Rattle.gq_plan.specs.Plans.{Plan}
use Rattle.gq_plan.specs.declared.typed.Typed.{Typed}

-- in a valid graph, an assignment that lies in an alternative fits the kinds that the alternative gives its variables
abbrev pub LyingFitsKinds : Type 0
LyingFitsKinds =
    (g : Graph) (y : Typed) (t : Assignment) → IsTrue (is_valid g) → IsTrue (lies_in g y t)
    → FitsKinds (kinds_of g.catalog y) g (row_of t)

-- an assignment is of the graph and of an alternative: it has one node and one relationship for each of the alternative's
-- variables, all of the graph, lies in the alternative, and makes all its tests true and all its pairs different
pub record IsMade (g : Graph) (y : Typed) (t : Assignment) : Type 0 where
  pub node_count : length t.nodes ≡ length y.nodes
  pub rel_count : length t.rels ≡ length y.rels
  pub nodes : All (λ n. IsTrue (is_node g n)) t.nodes
  pub rels : All (λ r. IsTrue (is_rel g r)) t.rels
  pub lies : IsTrue (lies_in g y t)
  pub tests : IsTrue (list_all (passes g (row_of t)) y.tests)
  pub pairs : IsTrue (list_all (differs (row_of t)) y.pairs)

-- in a valid graph, a plan that covers a sound alternative makes only such assignments
abbrev pub PlansMake : Type 0
PlansMake =
    (g : Graph) (y : Typed) (p : Plan)
    → IsTrue (is_valid g) → IsSound g.catalog y → Covers g.catalog y p
    → All (IsMade g y) (meaning g y p)
