-- The tests of the other end of a trail.
use Rattle.std.proofs.Common.{◌≡◌, List, ap, ◌∙◌}
use Rattle.std.specs.List.{list_all}
use Rattle.std.proofs.lemmas.List.Folds.{list_all-map}
use Rattle.gq_base.specs.Plain.{Graph}
use Rattle.gq_eval.specs.Asked.{Asked, asked}
use Rattle.gq_expr.specs.Reading as reading
use Rattle.gq_plan.specs.Conditions.{passes}
use Rattle.gq_plan.specs.declared.TrailPart.{TrailPart}
use Rattle.gq_plan.specs.declared.bound.NamedExpr.{NamedExpr}
use Rattle.gq_ends.specs.steps.Answers.{holds, tests_of}

pub all_pass : (g : Graph) (p : TrailPart) (row : reading.Assignment) (tests : List Asked) → tests ≡ tests_of g p
    → list_all (holds row) tests ≡ list_all (passes g row) p.tests
all_pass g p row tests are = ap (list_all (holds row)) are ∙ list_all-map (holds row) (λ (t : NamedExpr). asked t.expr g) p.tests
