-- The test of a map entry passes in a row exactly where the entry holds there.
use Rattle.std.proofs.Common.{◌≡◌, ℕ, Bool, true, false, Option, Some, None, Ok, List, [], ◌∷◌, refl, ap₂, ◌∙◌}
use Rattle.gq_base.specs.Plain.{Graph}
use Rattle.gq_base.specs.Results.{and_then}
use Rattle.gq_base.specs.Truth.{and3}
use Rattle.gq_base.specs.Values.{equal_vals, literal_val}
use Rattle.gq_base.specs.declared.CompareOp.TheVariants as compare
use Rattle.gq_core.specs.Entries.{entry_expr, entry_test, property_of}
use Rattle.gq_expr.proofs.Equations.{meaning_Compare, meaning_Literal, meaning_NodeProperty, meaning_RelProperty}
use Rattle.gq_expr.specs.Meaning.{compare_chain, meaning}
use Rattle.gq_expr.specs.Operators.{Outcome, of_truth}
use Rattle.gq_expr.specs.Reading as reading
use Rattle.gq_expr.specs.declared.Expr.TheVariants as expr
use Rattle.gq_law_reaches.specs.Turned.{is_so, value_in}
use Rattle.gq_plan.specs.Conditions.{passes}
use Rattle.gq_plan.specs.declared.variable.Variable.{Variable}
use Rattle.gq_plan.specs.declared.variable.Variable.TheVariants.{Node as node, Rel as rel}
use Rattle.gq_scopes.specs.Patterns.{MapEntry, Name}
use Rattle.gq_law_cores.specs.Entries.{EntryTestsAreTests}

module _ (g : Graph) (r : reading.Assignment) where
  value_is : (v : Variable) (name : Name) → meaning g r (property_of v name) ≡ Ok (value_in g r v name)
  value_is (node v) name = meaning_NodeProperty g r v name
  value_is (rel x) name = meaning_RelProperty g r x name

  -- the entry's comparison
  entry_means : (e : MapEntry) → meaning g r (entry_expr e) ≡ Ok (of_truth (and3 (Some true) (equal_vals (value_in g r e.variable e.entry.key) (literal_val e.entry.value))))
  entry_means e =
      meaning_Compare g r (property_of e.variable e.entry.key) (record { op = compare.Equal; expr = expr.Literal e.entry.value } ∷ [])
      ∙ ap₂ (λ (o q : Outcome). and_then o (λ a. compare_chain (Some true) a (record { op = compare.Equal; expr = q } ∷ [])))
      (value_is e.variable e.entry.key) (meaning_Literal g r e.entry.value)

  entry_is : (text : List ℕ) (e : MapEntry) → passes g r (entry_test text e) ≡ is_so (equal_vals (value_in g r e.variable e.entry.key) (literal_val e.entry.value))
  entry_is text e = go (equal_vals (value_in g r e.variable e.entry.key) (literal_val e.entry.value)) refl (entry_means e)
    where
      go : (o : Option Bool) → equal_vals (value_in g r e.variable e.entry.key) (literal_val e.entry.value) ≡ o
          → meaning g r (entry_expr e) ≡ Ok (of_truth (and3 (Some true) (equal_vals (value_in g r e.variable e.entry.key) (literal_val e.entry.value))))
          → passes g r (entry_test text e) ≡ is_so (equal_vals (value_in g r e.variable e.entry.key) (literal_val e.entry.value))
      go None is means = rw (means, is) refl
      go (Some true) is means = rw (means, is) refl
      go (Some false) is means = rw (means, is) refl

pub entry_tests_are_tests : EntryTestsAreTests
entry_tests_are_tests text g r e = entry_is g r text e
