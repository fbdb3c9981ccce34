-- The outcomes of the rows by which assignments are continued, each with the fault that marks it, are those that are told of the
-- query's conjuncts, tests, optional clauses and trails.
use Rattle.std.proofs.Common.{◌≡◌, ◌∙◌, Bool, true, false, cond, Option, List, [], ◌∷◌, ◌++◌, map, flat_map, refl, sym, ap}
use Rattle.std.specs.Prelude.{filter}
use Rattle.std.proofs.lemmas.List.{map-append}
use Rattle.std.proofs.lemmas.List.Concat.{flat_map_single}
use Rattle.gq_base.specs.Plain.{Graph}
use Rattle.gq_eval.specs.Asked.{asked_of}
use Rattle.gq_expr.specs.Reading as reading
use Rattle.gq_expr.specs.declared.Fault.{Fault}
use Rattle.gq_outer.specs.Clauses.{after_clauses}
use Rattle.gq_plan.specs.Assignments.{Assignment, row_of}
use Rattle.gq_plan.specs.Marked.{Marked, ending, marked}
use Rattle.gq_plan.specs.Outcomes.{late_conjuncts}
use Rattle.gq_plan.specs.declared.Bound.{Bound}
use Rattle.gq_plan.specs.declared.Typed.{Typed}
use Rattle.gq_drain.specs.Becoming.{outcomes_behind, outcomes_by, outcomes_on}
use Rattle.gq_drain.specs.Prepared.{known_by, later_by}
use Rattle.gq_drain.specs.Testing.{Admission, admitted_by}
use Rattle.gq_drain.specs.declared.prepared.Prepared.{Prepared}
use Rattle.gq_drain.specs.steps.Behind.{behind_rows}
use Rattle.gq_drain.specs.steps.Continued.{ended_by, left_by, rows_marked}
use Rattle.gq_drain.specs.steps.Continuing.{continued_by, continued_on}
use Rattle.gq_drain.specs.steps.Given.{given_by, if_admitted}
use Rattle.gq_drain.specs.steps.Walking.{walked_rows}
use Rattle.gq_drain.proofs.Drained.{filtered}
use Rattle.gq_drain.proofs.Judging.{late_says}

map_flat_map : {A B C : Type 0} (f : B → C) (h : A → List B) (xs : List A) → map f (flat_map h xs) ≡ flat_map (λ x. map f (h x)) xs
map_flat_map f h [] = refl
map_flat_map f h (x ∷ xs) = map-append f (h x) (flat_map h xs) ∙ ap (λ l. map f (h x) ++ l) (map_flat_map f h xs)

-- ---- what is left of a row

module _ (admitted : Admission) (row : reading.Assignment) where
  abbrev admits : Marked → Bool
  admits m = admitted m.row

  -- all of it, where the row is admitted, and else nothing
  pub left_all : (ms : List (Option Fault)) → true ≡ admitted row → rows_marked row ms ≡ filter admits (rows_marked row ms)
  left_all [] e = refl
  left_all (m ∷ ms) e =
      ap (λ l. record { row = row; mark = m } ∷ l) (left_all ms e)
      ∙ ap (λ b. cond b (record { row = row; mark = m } ∷ filter admits (rows_marked row ms)) (filter admits (rows_marked row ms))) e

  pub left_none : (ms : List (Option Fault)) → false ≡ admitted row → [] ≡ filter admits (rows_marked row ms)
  left_none [] e = refl
  left_none (m ∷ ms) e =
      left_none ms e
      ∙ ap (λ b. cond b (record { row = row; mark = m } ∷ filter admits (rows_marked row ms)) (filter admits (rows_marked row ms))) e

module _ (p : Prepared) (y : Typed) (g : Graph) (b : Bound) (asked : p.conjuncts ≡ asked_of g b.conjuncts) where
  -- by the conjuncts of the query
  left_is : (row : reading.Assignment) → left_by p y row ≡ filter (λ m. admitted_by p.tests.all m.row) (marked g (late_conjuncts b y) row)
  unfolding marked
  left_is row = ap (λ ms. filter (λ m. admitted_by p.tests.all m.row) (rows_marked row ms)) (late_says g b row y p.conjuncts asked)

  left_outcomes : {A : Type 0} (f : Marked → List A) (row : reading.Assignment)
      → flat_map f (left_by p y row) ≡ flat_map (λ m. cond (admitted_by p.tests.all m.row) (f m) []) (marked g (late_conjuncts b y) row)
  left_outcomes f row = ap (flat_map f) (left_is row) ∙ filtered f (λ m. admitted_by p.tests.all m.row) (marked g (late_conjuncts b y) row)

  -- ---- optional clauses

  behind_one : p.optionals.held.graph ≡ g → p.optionals.held.parts ≡ b.optionals → (t : Assignment) → ended_by (behind_rows p y) g b y t ≡ given_by (later_by g p) g b y t
  behind_one graph parts t =
      let held = p.optionals.held in
      map_flat_map (ending g b) (after_clauses held.graph (known_by p) held.parts held.lists) (left_by p y (row_of t))
      ∙ (λ i. flat_map (λ m. map (ending g b) (after_clauses (graph i) (known_by p) (parts i) held.lists m)) (left_by p y (row_of t)))
      ∙ left_outcomes (outcomes_behind g b (known_by p) held.lists) (row_of t)

  pub behind_outcomes : p.optionals.held.graph ≡ g → p.optionals.held.parts ≡ b.optionals → (ts : List Assignment)
      → outcomes_by (ended_by (behind_rows p y)) g b y ts ≡ outcomes_by (given_by (later_by g p)) g b y ts
  behind_outcomes graph parts ts = λ i. flat_map (λ t. behind_one graph parts t i) ts

  -- ---- trails

  reached_one : (row : reading.Assignment) → map (ending g b) (left_by p y row) ≡ outcomes_on (if_admitted (admitted_by p.tests.all) g) g b y row
  reached_one row = sym (flat_map_single (ending g b) (left_by p y row)) ∙ left_outcomes (λ m. ending g b m ∷ []) row

  walked_one : p.graph.now ≡ g → p.bound.now ≡ b → (t : Assignment) → ended_by (walked_rows p y) g b y t ≡ continued_on (if_admitted (admitted_by p.tests.all) g) g b y t
  walked_one over bound t =
      (λ i. map (ending g b) (flat_map (left_by p y) (continued_by (over i) (bound i) y t)))
      ∙ map_flat_map (ending g b) (left_by p y) (continued_by g b y t)
      ∙ (λ i. flat_map (λ r. reached_one r i) (continued_by g b y t))

  pub walked_outcomes : p.graph.now ≡ g → p.bound.now ≡ b → (ts : List Assignment)
      → outcomes_by (ended_by (walked_rows p y)) g b y ts ≡ outcomes_by (continued_on (if_admitted (admitted_by p.tests.all) g)) g b y ts
  walked_outcomes over bound ts = λ i. flat_map (λ t. walked_one over bound t i) ts
