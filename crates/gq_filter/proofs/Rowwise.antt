-- Rows that are put in one after another, and what a condition keeps of them.
use Rattle.std.proofs.Common.{◌≡◌, ◌≢◌, ◌⊎◌, inl, inr, ℕ, ◌+◌, ◌<◌, ◌≤◌, Bool, true, false, List, length, refl, sym, ap, ◌∙◌, arith}
use Rattle.std.specs.Prelude.{◌&&◌, slice_index, slice_set}
use Rattle.std.proofs.lemmas.Bool.{cases_eq, cases_lt}
use Rattle.std.proofs.lemmas.List.{get_or-set_same, get_or-set_other, length-set, set-get_or, set-set}
use Rattle.gq_bits.specs.Places.{is_marked}
use Rattle.gq_plan.specs.declared.assignment.Assignment.{Assignment}
use Rattle.gq_filter.specs.RowTests.{RowCondition, is_true_of}
use Rattle.gq_filter.specs.Rows.{count_in, row_in, with_row}
use Rattle.gq_filter.specs.declared.rows.Rows.{Rows}

and_true : (b : Bool) → b ≡ (b && true)
and_true true = refl
and_true false = refl

and_false : (b : Bool) → false ≡ (b && false)
and_false true = refl
and_false false = refl

module _ (c : RowCondition) (variable : ℕ) (rows : Rows) (old : Assignment) (before : List Bool) where
  abbrev holds_at : ℕ → Bool
  holds_at k = is_true_of c (with_row variable (row_in rows k) old)

  -- the places before one were tried; but for the variable's row the assignment is the same
  pub record IsKeeping (n : ℕ) (row : Assignment) (marks : List Bool) : Type 0 where
    pub again : (r : ℕ) → with_row variable r row ≡ with_row variable r old
    pub done : (k : ℕ) → k < n → is_marked marks k ≡ (is_marked before k && holds_at k)
    pub rest : (k : ℕ) → n ≤ k → is_marked marks k ≡ is_marked before k

  pub keeping_from : IsKeeping 0 old before
  keeping_from = record { again = λ r. refl; done = λ k h. absurd (omega (arith, h)); rest = λ k h. refl }

  module _ (n : ℕ) (row : Assignment) (marks : List Bool) (s : IsKeeping n row marks) where
    pub as_long : length row.nodes ≡ length old.nodes
    as_long = sym (length-set row.nodes variable 0) ∙ ap (λ (r : Assignment). length r.nodes) (s.again 0) ∙ length-set old.nodes variable 0

    one_more : (row' : Assignment) (marks' : List Bool) → ((r : ℕ) → with_row variable r row' ≡ with_row variable r row) → ((k : ℕ) → k ≢ n → is_marked marks' k ≡ is_marked marks k)
        → is_marked marks' n ≡ (is_marked before n && holds_at n) → IsKeeping (n + 1) row' marks'
    one_more row' marks' same others here = record {
      again = λ r. same r ∙ s.again r;
      done = λ k h. at k h (cases_eq k n);
      rest = λ k h. others k (λ e. omega (arith, e, h)) ∙ s.rest k (omega (arith, h));
    }
      where
        at : (k : ℕ) → k < n + 1 → (k ≡ n) ⊎ (k ≡ n → ⊥) → is_marked marks' k ≡ (is_marked before k && holds_at k)
        at k h (inl e) = ap (is_marked marks') e ∙ here ∙ ap (λ i. is_marked before i && holds_at i) (sym e)
        at k h (inr e) = others k e ∙ s.done k (omega (arith, h, e))

    pub keeping_skipped : is_marked marks n ≡ false → IsKeeping (n + 1) row marks
    keeping_skipped off = one_more row marks (λ r. refl) (λ k e. refl) (off ∙ sym (ap (λ b. b && holds_at n) (sym (s.rest n (omega arith)) ∙ off)))

    put_twice : (r : ℕ) → with_row variable r (with_row variable (row_in rows n) row) ≡ with_row variable r row
    put_twice r = ap {B = Assignment} (λ nodes. record { nodes = nodes; rels = row.rels }) (set-set row.nodes variable (row_in rows n) r)

    holds_here : (told : Bool) → told ≡ is_true_of c (with_row variable (row_in rows n) row) → holds_at n ≡ told
    holds_here told is = sym (is ∙ ap (is_true_of c) (s.again (row_in rows n)))

    pub keeping_kept : is_marked marks n ≡ true → true ≡ is_true_of c (with_row variable (row_in rows n) row) → IsKeeping (n + 1) (with_row variable (row_in rows n) row) marks
    keeping_kept on is = one_more (with_row variable (row_in rows n) row) marks put_twice (λ k e. refl)
        (s.rest n (omega arith) ∙ and_true (is_marked before n) ∙ ap (λ b. is_marked before n && b) (sym (holds_here true is)))

    pub keeping_dropped : n < length marks → false ≡ is_true_of c (with_row variable (row_in rows n) row) → IsKeeping (n + 1) (with_row variable (row_in rows n) row) (slice_set marks n false)
    keeping_dropped inside is = one_more (with_row variable (row_in rows n) row) (slice_set marks n false) put_twice (λ k e. get_or-set_other marks n k false false e)
        (get_or-set_same marks n false false inside ∙ and_false (is_marked before n) ∙ ap (λ b. is_marked before n && b) (sym (holds_here false is)))

    pub all_kept : count_in rows ≤ n → ((k : ℕ) → count_in rows ≤ k → is_marked before k ≡ false) → (k : ℕ) → is_marked marks k ≡ (is_marked before k && holds_at k)
    all_kept all within k = at (cases_lt k n)
      where
        at : (k < n) ⊎ (n ≤ k) → is_marked marks k ≡ (is_marked before k && holds_at k)
        at (inl low) = s.done k low
        at (inr high) = s.rest k high ∙ off ∙ sym (ap (λ b. b && holds_at k) off)
          where
            off : is_marked before k ≡ false
            off = within k (omega (arith, high, all))

    pub put_back : with_row variable (slice_index old.nodes variable) row ≡ old
    put_back = s.again (slice_index old.nodes variable) ∙ ap {B = Assignment} (λ nodes. record { nodes = nodes; rels = old.rels }) (set-get_or old.nodes variable 0)
