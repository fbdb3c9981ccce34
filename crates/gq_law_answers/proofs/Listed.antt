-- What covering plans make of the alternatives of a pattern with no conjuncts are its matches, each once.
use Rattle.std.proofs.Common.{◌≡◌, ℕ, List, [], map, filter, flat_map, IsTrue, IsPermutation, All, refl, sym, ap, ◌∙◌, subst}
use Rattle.std.specs.List.{AllByRecursion, AllZip}
use Rattle.std.proofs.lemmas.List.Elements.{recursion_from_All}
use Rattle.std.proofs.lemmas.List.Folds.{flat_map-map}
use Rattle.std.proofs.lemmas.List.Sorted.{IsPermutation-trans}
use Rattle.gq_base.specs.Plain.{Graph}
use Rattle.gq_base.specs.Valid as valid
use Rattle.gq_alternatives.specs.Alternatives.{Choice, pattern_alternatives, typed_of}
use Rattle.gq_alternatives.specs.Matches.{pattern_matches}
use Rattle.gq_core.specs.Entries.{entry_test}
use Rattle.gq_law_answers.specs.Answered.{allowed, late_pass, meanings}
use Rattle.gq_law_answers.proofs.Entries.{tests_entries}
use Rattle.gq_law_answers.proofs.Matched.{filter_all, has_tables, pattern_answers, plans_allow}
use Rattle.gq_plan.specs.Assignments.{Assignment}
use Rattle.gq_plan.specs.Covers.{Covers}
use Rattle.gq_plan.specs.Plans.{Plan}
use Rattle.gq_plan.specs.Soundness.{IsSound}
use Rattle.gq_plan.specs.declared.Typed.{Typed}
use Rattle.gq_plan.proofs.Each.{each_map, each_of}
use Rattle.gq_scopes.specs.Patterns.{Pattern}

module _ (g : Graph) (p : Pattern) (text : List ℕ) where
  abbrev typed : Choice → Typed
  typed c = typed_of g.catalog p (map (entry_test text) p.entries) [] c

  abbrev kept : Typed → List Assignment
  kept y = filter (late_pass g [] y) (allowed g y)

  none_late : (c : Choice) → (typed c).late ≡ []
  unfolding typed_of
  none_late c = refl

  pub pattern_kept : IsTrue (valid.is_valid g) → (ys : List Typed) → ys ≡ map typed (pattern_alternatives g.catalog p) → IsPermutation (flat_map kept ys) (pattern_matches g p)
  pattern_kept real ys are =
      subst (λ l. IsPermutation l (pattern_matches g p)) (sym (ap (flat_map kept) are ∙ flat_map-map kept typed (pattern_alternatives g.catalog p)))
      (subst (IsPermutation (flat_map (λ c. kept (typed c)) (pattern_alternatives g.catalog p))) (filter_all (pattern_matches g p))
      (pattern_answers g p (map (entry_test text) p.entries) [] (tests_entries g p text) (has_tables g real)))

  pub pattern_planned : IsTrue (valid.is_valid g) → (ys : List Typed) (plans : List Plan) → ys ≡ map typed (pattern_alternatives g.catalog p) → All (IsSound g.catalog) ys
      → AllZip (Covers g.catalog) ys plans → IsPermutation (meanings g ys plans) (pattern_matches g p)
  pattern_planned real ys plans are sound covers =
      IsPermutation-trans _ _ _
      (plans_allow g [] real ys plans
      (subst (AllByRecursion (λ y. y.late ≡ [])) (sym are) (each_map (λ c. Unit {0}) (λ y. y.late ≡ []) typed (λ c _. none_late c) (pattern_alternatives g.catalog p) (each_of _ (λ c. tt) (pattern_alternatives g.catalog p))))
      (recursion_from_All _ ys sound) covers)
      (pattern_kept real ys are)
