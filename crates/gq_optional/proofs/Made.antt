-- What a clause makes of a row, match by match, and what clauses make of it one behind another.
use Rattle.std.proofs.Common.{◌≡◌, ◌∙◌, Bool, Option, List, [], ◌∷◌, ◌++◌, map, filter, flat_map, refl, sym, ap}
use Rattle.std.proofs.lemmas.List.Elements.{filter-append}
use Rattle.gq_base.specs.Plain.{Graph}
use Rattle.gq_expr.specs.Reading as reading
use Rattle.gq_expr.specs.declared.Fault.{Fault}
use Rattle.gq_plan.specs.Assignments as plain
use Rattle.gq_plan.specs.Marked.{Marked, marked, marks}
use Rattle.gq_plan.specs.Outcomes.{meanings_of}
use Rattle.gq_plan.specs.declared.bound.NamedExpr.{NamedExpr}
use Rattle.gq_outer.specs.Clauses.{joined, or_alone, unmarked, with_match}
use Rattle.gq_eval.specs.Judged.{marks_of}
use Rattle.gq_eval.specs.declared.judging.Verdict.{Verdict}
use Rattle.gq_plan.specs.declared.bound.OptionalPart.{OptionalPart}
use Rattle.gq_optional.specs.declared.clause.Clause.{Clause}
use Rattle.gq_optional.specs.steps.Levels.{agreeing_in, made_by, made_by_all}
use Rattle.gq_optional.specs.steps.Listed.{agrees_with, list_of, matches_in}

-- ---- one match

-- what is left of a row by what conjuncts say of it
rows_by : reading.Assignment → List (Option Fault) → List Marked
rows_by row ms = map (λ m. record { row = row; mark = m }) ms

marked_by : (g : Graph) (conjuncts : List NamedExpr) (row : reading.Assignment) (v : Verdict) → marks_of v ≡ marks (meanings_of g row conjuncts) → marked g conjuncts row ≡ map (λ m. record { row = row; mark = m }) (marks_of v)
unfolding marked
marked_by g conjuncts row v e = ap (map (λ m. record { row = row; mark = m })) (sym e)

module _ (g : Graph) (part : OptionalPart) (row here : reading.Assignment) (t : plain.Assignment) (ts : List plain.Assignment) (is : here ≡ with_match part.nodes part.rels row t) where
  pub joined_by : (v : Verdict) → marks_of v ≡ marks (meanings_of g here part.conjuncts) → joined g part row (t ∷ ts) ≡ map (λ m. record { row = here; mark = m }) (marks_of v) ++ joined g part row ts
  joined_by v e = ap (λ r. marked g part.conjuncts r ++ joined g part row ts) (sym is) ∙ ap (λ l. l ++ joined g part row ts) (marked_by g part.conjuncts here v e)

-- ---- one clause

filter_each : {A B : Type 0} (p : B → Bool) (f : A → List B) (xs : List A) → filter p (flat_map f xs) ≡ flat_map (λ x. filter p (f x)) xs
filter_each p f [] = refl
filter_each p f (x ∷ xs) = filter-append p (f x) (flat_map f xs) ∙ ap (λ l. filter p (f x) ++ l) (filter_each p f xs)

pub agreeing_all : (c : Clause) (row : reading.Assignment) → agreeing_in c row c.matches.items ≡ filter (agrees_with c.shared c.part.now.nodes row) (list_of c)
agreeing_all c row = sym (filter_each (agrees_with c.shared c.part.now.nodes row) matches_in c.matches.items)

module _ (g : Graph) (c : Clause) (row : reading.Assignment) where
  -- what a row becomes that no fault marks
  made_is : made_by g c (unmarked row) ≡ or_alone row (joined g c.part.now row (agreeing_in c row c.matches.items))
  made_is = ap (λ l. or_alone row (joined g c.part.now row l)) (sym (agreeing_all c row))

  pub made_some : (m : Marked) (rest : List Marked) → joined g c.part.now row (agreeing_in c row c.matches.items) ≡ m ∷ rest → made_by g c (unmarked row) ≡ m ∷ rest
  made_some m rest e = made_is ∙ ap (or_alone row) e

  pub made_none : joined g c.part.now row (agreeing_in c row c.matches.items) ≡ [] → made_by g c (unmarked row) ≡ unmarked row ∷ []
  made_none e = made_is ∙ ap (or_alone row) e

-- ---- clauses one behind another

pub all_begun : (g : Graph) (c : Clause) (cs : List Clause) (m here last : Marked) (left rest : List Marked) → made_by g c m ≡ here ∷ left → made_by_all g cs here ≡ last ∷ rest
    → made_by_all g (c ∷ cs) m ≡ last ∷ (rest ++ flat_map (made_by_all g cs) left)
all_begun g c cs m here last left rest e f = ap (flat_map (made_by_all g cs)) e ∙ ap (λ l. l ++ flat_map (made_by_all g cs) left) f
