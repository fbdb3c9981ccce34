-- A relationship of a pair differs from the other one where its load number does.
use Rattle.std.proofs.Common.{◌≡◌, ◌≢◌, inl, inr, ℕ, ◌<◌, ◌==◌, not, Some, length, refl, sym, ap, ap₂, ◌∙◌, arith}
use Rattle.std.specs.Prelude.{slice_index}
use Rattle.std.proofs.lemmas.Bool.{cases_eq, eq-eqb, ne_eqb}
use Rattle.std.proofs.lemmas.List.{get_or-set_same, get_or-set_other, length-set}
use Rattle.gq_plan.specs.Conditions.{differ, differs}
use Rattle.gq_plan.specs.Rows.{as_read, rel_table}
use Rattle.gq_plan.specs.declared.assignment.Assignment.{Assignment}
use Rattle.gq_plan.specs.declared.typed.RelPair.{RelPair}
use Rattle.gq_plan.specs.declared.typed.Typed.{Typed}
use Rattle.gq_chains.proofs.Apart.{apart, read_at}
use Rattle.gq_steps.specs.Tests.{IsPairWith, other_of}
use Rattle.gq_steps.specs.steps.Outcomes.{with_number}

pub eqb-sym : (a b : ℕ) → (a == b) ≡ (b == a)
eqb-sym a b = elim (cases_eq a b) [ inl e ↦ eq-eqb a b e ∙ sym (eq-eqb b a (sym e)) | inr other ↦ ne_eqb a b other ∙ sym (ne_eqb b a (λ e. other (sym e))) ]

module _ (y : Typed) (x : ℕ) (pair : RelPair) (w : IsPairWith y x pair) (row : Assignment) (n : ℕ) (many : length (with_number x n row).rels ≡ length y.rels) (low : x < length y.rels) where
  abbrev exact : Assignment
  exact = with_number x n row

  abbrev other : ℕ
  other = other_of x pair

  own : (as_read y exact).rels x ≡ Some (record { table = rel_table y x; row = n })
  own = read_at y exact x many low ∙ ap (λ r. Some (record { table = rel_table y x; row = r })) (get_or-set_same row.rels x n 0 (omega (arith, many, low, length-set row.rels x n)))

  others : (as_read y exact).rels other ≡ Some (record { table = rel_table y other; row = slice_index row.rels other })
  others = read_at y exact other many w.low ∙ ap (λ r. Some (record { table = rel_table y other; row = r })) (get_or-set_other row.rels x other n 0 w.apart)

  first_own : pair.first ≡ x → differs (as_read y exact) pair ≡ not (n == slice_index row.rels other)
  first_own e =
      let is : other ≡ pair.second = rw (eq-eqb pair.first x e) refl in
      ap₂ differ (ap (as_read y exact).rels e ∙ own) (ap (as_read y exact).rels (sym is) ∙ others)
      ∙ apart (rel_table y x) (rel_table y other) n (slice_index row.rels other) (sym w.same)

  second_own : pair.first ≢ x → pair.second ≡ x → differs (as_read y exact) pair ≡ not (n == slice_index row.rels other)
  second_own unlike e =
      let is : other ≡ pair.first = rw (ne_eqb pair.first x unlike) refl in
      ap₂ differ (ap (as_read y exact).rels (sym is) ∙ others) (ap (as_read y exact).rels e ∙ own)
      ∙ apart (rel_table y other) (rel_table y x) (slice_index row.rels other) n w.same
      ∙ ap not (eqb-sym (slice_index row.rels other) n)

  pub differs_by : differs (as_read y exact) pair ≡ not (n == slice_index row.rels other)
  differs_by = elim (cases_eq pair.first x) [
    | inl e ↦ first_own e
    | inr unlike ↦ second_own unlike (elim w.one [ inl e ↦ absurd (unlike e) | inr e ↦ e ])
  ]
