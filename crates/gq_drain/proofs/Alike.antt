-- Without optional clauses rows have one outcome each, and without trails assignments have one row each.
use Rattle.std.proofs.Common.{◌≡◌, ◌∙◌, ℕ, cond, List, [], ◌∷◌, append-nil, map, flat_map, ap, refl, sym}
use Rattle.gq_base.specs.Plain.{Graph}
use Rattle.gq_expr.specs.Reading as reading
use Rattle.gq_plan.specs.Assignments.{Assignment}
use Rattle.gq_plan.specs.Marked.{Marked, ending, marked}
use Rattle.gq_plan.specs.Outcomes.{late_conjuncts}
use Rattle.gq_plan.specs.declared.Bound.{Bound}
use Rattle.gq_plan.specs.declared.Typed.{Typed}
use Rattle.gq_outer.specs.Clauses.{after_clauses}
use Rattle.gq_drain.specs.Becoming.{Later, given_on, if_admitted_behind, outcomes_by, outcomes_on, rows_by}
use Rattle.gq_drain.specs.steps.Given.{given_by, if_admitted}
use Rattle.gq_drain.specs.Testing.{Admission}
use Rattle.gq_drain.proofs.Continuing.{own_alone}

module _ (admitted : Admission) (g : Graph) (known : List ℕ) (mss : List (List Assignment)) (b : Bound) (none : b.optionals ≡ []) where
  no_clauses : (m : Marked) → map (ending g b) (after_clauses g known [] mss m) ≡ ending g b m ∷ []
  unfolding after_clauses
  no_clauses m = refl

  plain_row : (m : Marked) → if_admitted admitted g b m ≡ if_admitted_behind admitted g known mss b m
  plain_row m =
      sym (ap (λ l. cond (admitted m.row) l []) (ap (λ parts. map (ending g b) (after_clauses g known parts mss m)) none ∙ no_clauses m))

  -- without optional clauses rows have one outcome each
  pub plainly : (y : Typed) (row : reading.Assignment) → outcomes_on (if_admitted admitted g) g b y row ≡ outcomes_on (if_admitted_behind admitted g known mss) g b y row
  plainly y row = λ i. flat_map (λ m. plain_row m i) (marked g (late_conjuncts b y) row)

  pub plainly_on : (y : Typed) (ts : List Assignment) → outcomes_by (given_on (if_admitted admitted g)) g b y ts ≡ outcomes_by (given_on (if_admitted_behind admitted g known mss)) g b y ts
  plainly_on y ts = λ i. flat_map (λ t. flat_map (λ r. plainly y r i) (rows_by g b.trails y t)) ts

-- without trails assignments have one row each
pub alone_on : (later : Later) (g : Graph) (b : Bound) → b.trails ≡ [] → (y : Typed) (ts : List Assignment)
    → outcomes_by (given_by later) g b y ts ≡ outcomes_by (given_on later) g b y ts
alone_on later g b none y ts = λ i. flat_map (λ t. one t i) ts
  where
    one : (t : Assignment) → given_by later g b y t ≡ given_on later g b y t
    one t =
        sym (ap (flat_map (outcomes_on later g b y)) (ap (λ parts. rows_by g parts y t) none ∙ own_alone g y t) ∙ append-nil (given_by later g b y t))
