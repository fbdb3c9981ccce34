-- Places of a scan that conditions keep, one condition after another.
use Rattle.std.proofs.Common.{◌≡◌, ◌≢◌, ◌⊎◌, inl, inr, ℕ, suc, ◌+◌, ◌-◌, ◌^◌, ◌<◌, ◌≤◌, Bool, true, false, ◌&&◌, nat_lt, Some, List, length, refl, sym, ap, ◌∙◌, subst, arith}
use Rattle.std.proofs.lemmas.Bool.{and_parts, cases_lt, le-ltb, lt-ltb, ltb-true, false≢true}
use Rattle.gq_base.specs.Valid.{row_count}
use Rattle.gq_bits.specs.Places.{is_marked}
use Rattle.gq_bits.specs.declared.TheConstants.{VECTOR}
use Rattle.gq_plan.specs.Rows.{node_table}
use Rattle.gq_plan.specs.declared.assignment.Assignment.{Assignment}
use Rattle.gq_sift.specs.steps.Filters.{Filters}
use Rattle.gq_steps.specs.Keeps.{makes_one, IsRange, IsSifted, IsTriedAt}
use Rattle.gq_steps.specs.Levels.{Run, step_at, known}
use Rattle.gq_steps.specs.Moves.{IsRun, IsHeld, IsTried}
use Rattle.gq_steps.specs.steps.Outcomes.{passes_at, tested, with_row}
use Rattle.gq_steps.specs.Tests.{test_of}
use Rattle.gq_steps.specs.declared.group_steps.GroupSteps.{GroupSteps}
use Rattle.gq_steps.specs.declared.plan_run.Tried.TheVariants.{Made}
use Rattle.gq_steps.proofs.Going.{IsGoing, begins, ends, made_first, tried_made, tried_missed}
use Rattle.gq_chains.proofs.Acted.{keep_of}
use Rattle.gq_chains.proofs.Sifting.{judged}
use Rattle.gq_steps.proofs.Testing.{keep_tried}
use Rattle.gq_steps.proofs.Trying.{scan_low, scan_tried}

module _ (c : Run) (group : GroupSteps) (v first count : ℕ) (old : Assignment) where
  -- the row at a place is put in
  abbrev at : ℕ → Assignment
  at j = with_row v (first + j) old

  -- the conditions before a step keep the marked places, and another one drops the others
  pub record IsFiltering (d : ℕ) (marks : List Bool) : Type 0 where
    pub below : (j : ℕ) → is_marked marks j ≡ true → j < count
    pub going : (j : ℕ) → is_marked marks j ≡ true → IsGoing c group (first + j) old d (at j)
    pub dropped : (j : ℕ) → j < count → is_marked marks j ≡ false → makes_one c group (first + j) old ≡ false

  pub filtering_within : (d : ℕ) (marks : List Bool) → IsFiltering d marks → (j : ℕ) → first + count - first ≤ j → is_marked marks j ≡ false
  filtering_within d marks f j past = off (is_marked marks j) refl
    where
      off : (b : Bool) → is_marked marks j ≡ b → is_marked marks j ≡ false
      off true is = (let low = f.below j is in absurd (omega (arith, low, past)))
      off false is = is

module _ (c : Run) (run : IsRun c) (group : GroupSteps) (range : IsRange c group) (v : ℕ) (filters : Filters c group v) (first count : ℕ) (old : Assignment) (held : IsHeld c old (known c group.first)) where
  abbrev put : ℕ → Assignment
  put j = with_row v (first + j) old

  abbrev Filtering : ℕ → List Bool → Type 0
  Filtering d marks = IsFiltering c group v first count old d marks

  module _ (inside : first + count ≤ row_count c.graph.nodes (node_table c.typed v)) (fits : first + count < 2 ^ 32) where
    first_going : (j : ℕ) → j < count → IsGoing c group (first + j) old (group.first + 1) (put j)
    first_going j low =
        let some = range.some in
        let end = range.inside in
        let depth : group.first < length c.steps = omega arith in
        let there : first + j < row_count c.graph.nodes (node_table c.typed v) = omega (arith, low, inside) in
        let few : first + j + 1 < 2 ^ 32 = omega (arith, low, fits) in
        let made = scan_tried c run group.first depth old held v (first + j) (put j) Made filters.scans (refl, there, few) in
        let next : suc group.first ≡ group.first + 1 = omega arith in
        subst (λ d. IsGoing c group (first + j) old d (put j)) next (made_first c group range (first + j) old group.first old (put j) (begins c group range (first + j) old held) refl made)

    pub filtering_from : (marks : List Bool) → ((j : ℕ) → is_marked marks j ≡ nat_lt j count) → Filtering (group.first + 1) marks
    filtering_from marks all = record {
      below = λ j on. ltb-true j count (sym (all j) ∙ on);
      going = λ j on. first_going j (ltb-true j count (sym (all j) ∙ on));
      dropped = λ j low off. absurd (false≢true (sym off ∙ all j ∙ lt-ltb j count low));
    }

  module _ (d : ℕ) (above : group.first < d) (low : d < group.end) where
    abbrev test : ℕ
    test = (filters.tests d above low).0

    far : d ≢ group.first
    far = λ e. omega (arith, e, above)

    tried : (j : ℕ) → IsGoing c group (first + j) old d (put j) → (told : Bool) → passes_at c.graph c.typed (put j) test ≡ told → IsTried c d 0 (put j) (put j) (tested 0 told)
    tried j g told is =
        let depth : d < length c.steps = (let inside = range.inside in omega arith) in
        subst (λ b. IsTried c d 0 (put j) (put j) (tested 0 b)) is (keep_tried c run d depth (put j) g.held test (keep_of (step_at c d) test (filters.tests d above low).1) 0)

    next_going : (j : ℕ) → IsGoing c group (first + j) old d (put j) → passes_at c.graph c.typed (put j) test ≡ true → IsGoing c group (first + j) old (d + 1) (put j)
    next_going j g on =
        let next : suc d ≡ d + 1 = omega arith in
        subst (λ n. IsGoing c group (first + j) old n (put j)) next
        (tried_made c group range (first + j) old d 0 (put j) (put j) g low (λ e. absurd (far e)) (λ e. refl) (inr far) (tried j g true on))

    next_dropped : (j : ℕ) → IsGoing c group (first + j) old d (put j) → passes_at c.graph c.typed (put j) test ≡ false → makes_one c group (first + j) old ≡ false
    next_dropped j g off =
        let t : IsTriedAt c group (first + j) old false (put j) = tried_missed c group range (first + j) old d 0 (put j) (put j) g low (λ e. absurd (far e)) (λ e. refl) (inr far) (tried j g false off) in
        sym (judged c group (first + j) old false (put j) t).answer

    pub filtering_next : (before after : List Bool) → Filtering d before
        → ((i : ℕ) → test_of (step_at c d) ≡ Some i → (j : ℕ) → is_marked after j ≡ (is_marked before j && passes_at c.graph c.typed (put j) i)) → Filtering (d + 1) after
    filtering_next before after f kept = record {
      below = λ j on. f.below j (parts j on).0;
      going = λ j on. next_going j (f.going j (parts j on).0) (parts j on).1;
      dropped = λ j inside off. drops j inside (is_marked before j) refl (passes_at c.graph c.typed (put j) test) refl (sym (is j) ∙ off);
    }
      where
        is : (j : ℕ) → is_marked after j ≡ (is_marked before j && passes_at c.graph c.typed (put j) test)
        is j = kept test (filters.tests d above low).1 j

        parts : (j : ℕ) → is_marked after j ≡ true → (is_marked before j ≡ true) × (passes_at c.graph c.typed (put j) test ≡ true)
        parts j on = and_parts (is_marked before j) (passes_at c.graph c.typed (put j) test) (sym (is j) ∙ on)

        drops : (j : ℕ) → j < count → (b : Bool) → is_marked before j ≡ b → (p : Bool) → passes_at c.graph c.typed (put j) test ≡ p → (is_marked before j && passes_at c.graph c.typed (put j) test) ≡ false → makes_one c group (first + j) old ≡ false
        drops j inside false is_b p is_p off = f.dropped j inside is_b
        drops j inside true is_b false is_p off = next_dropped j (f.going j is_b) is_p
        drops j inside true is_b true is_p off = cc

  pub filtered : (d : ℕ) (marks : List Bool) → length marks ≡ VECTOR → Filtering d marks → group.end ≤ d → IsSifted c group first count old old marks
  filtered d marks long f high = record {
    held = held;
    alike = record { nodes = λ x e. refl; rels = λ x e. refl };
    len = long;
    each = λ j top. at_place j (is_marked marks j) refl (cases_lt j count);
  }
    where
      made : (j : ℕ) → is_marked marks j ≡ true → makes_one c group (first + j) old ≡ true
      made j on = sym (judged c group (first + j) old true (put j) (ends c group range (first + j) old (put j) d (f.going j on) high)).answer

      at_place : (j : ℕ) (b : Bool) → is_marked marks j ≡ b → (j < count) ⊎ (count ≤ j) → is_marked marks j ≡ (nat_lt j count && makes_one c group (first + j) old)
      at_place j true is (inl low) = is ∙ sym (ap (λ x. x && makes_one c group (first + j) old) (lt-ltb j count low) ∙ made j is)
      at_place j true is (inr past) = (let low = f.below j is in absurd (omega (arith, low, past)))
      at_place j false is (inl low) = is ∙ sym (ap (λ x. x && makes_one c group (first + j) old) (lt-ltb j count low) ∙ f.dropped j low is)
      at_place j false is (inr past) = is ∙ sym (ap (λ x. x && makes_one c group (first + j) old) (le-ltb j count past))

  pub filtering_node : v < length old.nodes
  filtering_node =
      let some = range.some in
      let end = range.inside in
      let depth : group.first < length c.steps = omega arith in
      let low = scan_low c run group.first depth old held v filters.scans in
      omega (arith, low, held.node_count)
