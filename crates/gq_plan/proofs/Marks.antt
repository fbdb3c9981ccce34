-- Where every row that is left has its one outcome, these are the outcomes of assignments; and where a conjunct drops a row, nothing is
-- left of it.
use Rattle.std.proofs.Common.{◌≡◌, Bool, true, false, Some, None, Result, Ok, Err, List, [], ◌∷◌, ◌++◌, map, flat_map, cond, refl, ap, ap₂, ◌∙◌}
use Rattle.std.specs.List.{list_any}
use Rattle.gq_base.specs.Plain.{Graph}
use Rattle.gq_base.specs.Values.{null, flag, int, str, node, rel}
use Rattle.gq_expr.specs.Operators.{Outcome}
use Rattle.gq_expr.specs.Reading as reading
use Rattle.gq_expr.specs.declared.Fault.{Fault}
use Rattle.gq_plan.specs.Assignments.{Assignment, row_of}
use Rattle.gq_plan.specs.Meaning.{found}
use Rattle.gq_plan.specs.Outcomes.{Row, behind_conditions, drops, key_meanings, meanings_of, outcome_by, row_with}
use Rattle.gq_plan.specs.declared.bound.Bound.{Bound}
use Rattle.gq_plan.specs.declared.bound.NamedExpr.{NamedExpr}
use Rattle.gq_plan.specs.Marked.{Marked, ended, ending, fault_in, marked, made_of, no_fault}

-- a fault among conditions stands before all that comes later
ended_is : {A : Type 0} (os : List Outcome) (later : Result A Fault) → ended (fault_in (behind_conditions os no_fault)) later ≡ behind_conditions os later
ended_is [] later = refl
ended_is (Ok null ∷ os) later = ended_is os later
ended_is (Ok (flag b) ∷ os) later = ended_is os later
ended_is (Ok (int z) ∷ os) later = refl
ended_is (Ok (str s) ∷ os) later = refl
ended_is (Ok (node n) ∷ os) later = refl
ended_is (Ok (rel r) ∷ os) later = refl
ended_is (Err f ∷ os) later = refl

-- the outcomes of what is left of a row are its one outcome, if it has one
pub ending_is : (g : Graph) (bound : Bound) (conjuncts : List NamedExpr) (row : reading.Assignment)
    → map (ending g bound) (marked g conjuncts row) ≡ found (outcome_by g bound conjuncts row)
unfolding marked ending outcome_by
ending_is g bound conjuncts row = go (list_any drops (meanings_of g row conjuncts))
  where
    later : Result Row Fault
    later = row_with (meanings_of g row bound.columns) (key_meanings g row bound.keys)

    os : List Outcome
    os = meanings_of g row conjuncts

    go : (b : Bool) → map (λ (m : Marked). ended m.mark (row_with (meanings_of g m.row bound.columns) (key_meanings g m.row bound.keys)))
        (map (λ m. record { row = row; mark = m }) (cond b [] (fault_in (behind_conditions os no_fault) ∷ [])))
        ≡ found (cond b None (Some (behind_conditions os later)))
    go true = refl
    go false = ap (λ r. r ∷ []) (ended_is os later)

-- so are those of all assignments
pub made_plainly : (g : Graph) (bound : Bound) (conjuncts : List NamedExpr) (ts : List Assignment)
    → made_of g conjuncts (λ m. ending g bound m ∷ []) ts ≡ flat_map (λ t. found (outcome_by g bound conjuncts (row_of t))) ts
made_plainly g bound conjuncts [] = refl
made_plainly g bound conjuncts (t ∷ ts) = ap₂ ◌++◌ (one (marked g conjuncts (row_of t)) ∙ ending_is g bound conjuncts (row_of t)) (made_plainly g bound conjuncts ts)
  where
    one : (ms : List Marked) → flat_map (λ m. ending g bound m ∷ []) ms ≡ map (ending g bound) ms
    one [] = refl
    one (m ∷ ms) = ap (λ l. ending g bound m ∷ l) (one ms)

-- where a conjunct drops a row, nothing is left of it
pub dropped_row : (g : Graph) (conjuncts : List NamedExpr) (row : reading.Assignment) → list_any drops (meanings_of g row conjuncts) ≡ true → marked g conjuncts row ≡ []
unfolding marked
dropped_row g conjuncts row h = rw h refl
