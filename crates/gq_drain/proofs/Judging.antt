-- What is said of the conjuncts that an alternative leaves.
use Rattle.std.proofs.Common.{◌≡◌, ◌∙◌, ℕ, List, ap}
use Rattle.gq_base.specs.Plain.{Graph}
use Rattle.gq_eval.proofs.Meanings.{numbered_are}
use Rattle.gq_eval.proofs.Verdicts.{judged_so}
use Rattle.gq_eval.specs.Asked.{Asked, answers, asked_of}
use Rattle.gq_eval.specs.Judged.{judged_after, marks_of}
use Rattle.gq_eval.specs.declared.judging.Verdict.{Verdict}
use Rattle.gq_eval.specs.declared.judging.Verdict.TheVariants.{Pass}
use Rattle.gq_expr.specs.Reading as reading
use Rattle.gq_plan.specs.Marked.{marks}
use Rattle.gq_plan.specs.Outcomes.{late_conjuncts, meanings_of}
use Rattle.gq_plan.specs.declared.Bound.{Bound}
use Rattle.gq_plan.specs.declared.Typed.{Typed}
use Rattle.gq_project.specs.Reading.{at_numbers}

-- the marks that the verdict of conjuncts leaves are theirs
pub verdict_says : (row : reading.Assignment) (all : List Asked) (late are : List ℕ) (v : Verdict) → late ≡ are → v ≡ judged_after Pass (answers row (at_numbers all late))
    → marks_of v ≡ marks (answers row (at_numbers all are))
verdict_says row all late are v same is =
    ap marks_of is ∙ judged_so (answers row (at_numbers all late)) ∙ ap (λ l. marks (answers row (at_numbers all l))) same

module _ (g : Graph) (b : Bound) (row : reading.Assignment) where
  -- those that an alternative leaves say of a row what they mean
  pub late_says : (y : Typed) (all : List Asked) → all ≡ asked_of g b.conjuncts → marks (answers row (at_numbers all y.late)) ≡ marks (meanings_of g row (late_conjuncts b y))
  late_says y all are = ap (λ l. marks (answers row (at_numbers l y.late))) are ∙ ap marks (numbered_are g row b.conjuncts y.late)
