-- The test of a map entry is true where the entry holds.
use Rattle.std.proofs.Common.{◌≡◌, ℕ, Bool, true, false, Option, Some, None, Ok, List, [], ◌∷◌, map, refl, ap₂, ◌∙◌, ◌&&◌}
use Rattle.gq_plan.specs.declared.variable.Variable.TheVariants.{Node as node, Rel as rel}
use Rattle.gq_plan.specs.declared.variable.Variable.{Variable}
use Rattle.gq_base.specs.Results.{and_then}
use Rattle.std.specs.List.{list_all}
use Rattle.gq_base.specs.Plain.{Graph}
use Rattle.gq_base.specs.Truth.{and3}
use Rattle.gq_base.specs.Values.{equal_vals, literal_val}
use Rattle.gq_base.specs.declared.CompareOp.TheVariants as compare
use Rattle.gq_expr.specs.Meaning.{meaning, compare_chain}
use Rattle.gq_expr.specs.Operators.{Outcome, of_truth}
use Rattle.gq_expr.specs.declared.Expr.TheVariants as expr
use Rattle.gq_expr.proofs.Equations.{meaning_Literal, meaning_NodeProperty, meaning_RelProperty, meaning_Compare}
use Rattle.gq_plan.specs.Assignments.{Assignment, row_of}
use Rattle.gq_plan.specs.Conditions.{passes}
use Rattle.gq_alternatives.specs.Matches.{value_of, entry_holds}
use Rattle.gq_core.specs.Entries.{property_of, entry_expr, entry_test}
use Rattle.gq_scopes.specs.Patterns.{MapEntry, Name, Pattern}
use Rattle.gq_law_answers.proofs.Narrowed.{AreEntryTests}

module _ (g : Graph) (t : Assignment) where
  value_is : (v : Variable) (name : Name) → meaning g (row_of t) (property_of v name) ≡ Ok (value_of g t v name)
  value_is (node v) name = meaning_NodeProperty g (row_of t) v name
  value_is (rel x) name = meaning_RelProperty g (row_of t) x name

  -- the entry's comparison
  entry_means : (e : MapEntry) → meaning g (row_of t) (entry_expr e) ≡ Ok (of_truth (and3 (Some true) (equal_vals (value_of g t e.variable e.entry.key) (literal_val e.entry.value))))
  entry_means e =
      meaning_Compare g (row_of t) (property_of e.variable e.entry.key) (record { op = compare.Equal; expr = expr.Literal e.entry.value } ∷ [])
      ∙ ap₂ (λ (o q : Outcome). and_then o (λ a. compare_chain (Some true) a (record { op = compare.Equal; expr = q } ∷ [])))
      (value_is e.variable e.entry.key) (meaning_Literal g (row_of t) e.entry.value)

  entry_is : (text : List ℕ) (e : MapEntry) → passes g (row_of t) (entry_test text e) ≡ entry_holds g t e
  entry_is text e = go (equal_vals (value_of g t e.variable e.entry.key) (literal_val e.entry.value)) refl (entry_means e)
    where
      go : (o : Option Bool) → equal_vals (value_of g t e.variable e.entry.key) (literal_val e.entry.value) ≡ o
          → meaning g (row_of t) (entry_expr e) ≡ Ok (of_truth (and3 (Some true) (equal_vals (value_of g t e.variable e.entry.key) (literal_val e.entry.value))))
          → passes g (row_of t) (entry_test text e) ≡ entry_holds g t e
      go None is means = rw (means, is) refl
      go (Some true) is means = rw (means, is) refl
      go (Some false) is means = rw (means, is) refl

  entries_are : (text : List ℕ) (es : List MapEntry) → list_all (passes g (row_of t)) (map (entry_test text) es) ≡ list_all (entry_holds g t) es
  entries_are text [] = refl
  entries_are text (e ∷ es) = ap₂ ◌&&◌ (entry_is text e) (entries_are text es)

pub tests_entries : (g : Graph) (p : Pattern) (text : List ℕ) → AreEntryTests g p (map (entry_test text) p.entries)
tests_entries g p text t = entries_are g t text p.entries
